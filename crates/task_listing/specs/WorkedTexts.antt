-- Worked texts: the listing of the counter, whose marks are worked in `task_code`, and what is wrong with damaged ones.
use Rattle.std.specs.Prelude.{◌≡◌, ℕ, [], ◌++◌, codes}
use Rattle.task_code.specs.WorkedListing.{counter}
use Rattle.task_listing.specs.declared.fault.ListKind.{ListKind}
use Rattle.task_listing.specs.declared.fault.ListKind.TheVariants as fault
use Rattle.task_listing.specs.Lines.{Bytes}
use Rattle.task_listing.specs.Listing.{listing}
use Rattle.task_listing.specs.Faults.{IsFirst}
use Rattle.task_listing.specs.Laws.{IsProgram}

-- the first fifteen lines, with this line for the task
abbrev pub nine : Bytes → Bytes
nine task =
    codes "tower-listing 1\nmonitors 1\nmonitor 1\noutputs 0\ntasks 1\n" ++ task
    ++ codes "TAKE 0\nLOCK 0\nPUSH 0\nPUSH 0\nLDM 0 0 1\nPUSH 1\nBIN + u32\nSTM 0 0 1\nUNLOCK 0\n"

-- the counter, up to its ninth instruction, and then this
abbrev pub counter_with : Bytes → Bytes
counter_with end = nine (codes "task 5 1 1 0 10\n") ++ end

-- the text has this fault
abbrev pub Shows : Bytes → ℕ → ListKind → Type 0
Shows end n k = IsFirst (counter_with end) n k

pub record WorkedTexts : Type 0 where
  pub is_program : IsProgram counter
  pub counter_text : listing counter ≡ counter_with (codes "JMP 0\nend\n")
  -- the end of the text is damaged
  pub nothing : IsFirst [] 1 fault.Short
  pub no_last_lf : Shows (codes "JMP 0\nend") 18 fault.Short
  pub no_last_line : Shows (codes "JMP 0\n") 17 fault.Short
  pub no_two_lines : Shows [] 16 fault.Short
  pub empty_line : Shows (codes "JMP 0\n\n") 17 fault.Line
  pub part_of_end : Shows (codes "JMP 0\nen") 17 fault.Line
  pub bytes_behind : Shows (codes "JMP 0\nend\nx") 18 fault.After
  pub line_behind : Shows (codes "JMP 0\nend\n\n") 18 fault.After
  -- an instruction is damaged
  pub past_the_code : Shows (codes "JMP 10\nend\n") 16 fault.Place
  pub below_the_code : Shows (codes "JMP -1\nend\n") 16 fault.Place
  pub far_past_the_code : Shows (codes "JMP 99999999999999999999\nend\n") 16 fault.Place
  pub of_bool : Shows (codes "CAST bool\nend\n") 16 fault.Place
  pub of_no_value : Shows (codes "CAST ix:0\nend\n") 16 fault.Number
  pub of_no_number : Shows (codes "CAST ix:\nend\n") 16 fault.Number
  pub misspelt : Shows (codes "JMP 00\nend\n") 16 fault.Number
  pub negative_zero : Shows (codes "PUSH -0\nend\n") 16 fault.Number
  pub blank_at_end : Shows (codes "JMP 0 \nend\n") 16 fault.Line
  pub tab : Shows (codes "JMP\t0\nend\n") 16 fault.Line
  pub no_operand : Shows (codes "LOC\nend\n") 16 fault.Line
  pub no_operation : Shows (codes "BIN ++ ix:\nend\n") 16 fault.Line
  pub too_much_to_push : Shows (codes "PUSH 18446744073709551616\nend\n") 16 fault.Place
  pub too_little_to_push : Shows (codes "PUSH -9223372036854775809\nend\n") 16 fault.Place
  -- two faults in one text
  pub line_before_short : Shows (codes "LOC") 16 fault.Line
  pub short_before_place : Shows (codes "JMP 10\nend") 18 fault.Short
  pub line_before_place : Shows (codes "JMP 10\nen\n") 17 fault.Line
  pub after_before_place : Shows (codes "JMP 10\nend\nx") 18 fault.After
  pub line_before_number : IsFirst (nine (codes "task 05  1 0 10\n")) 6 fault.Line
  -- a task, and the totals
  pub high_priority : IsFirst (nine (codes "task 256 1 1 0 10\n") ++ codes "JMP 0\nend\n") 6 fault.Number
  pub no_message : IsFirst (nine (codes "task 5 0 1 0 10\n") ++ codes "JMP 0\nend\n") 6 fault.Place
  pub large_room : IsFirst (nine (codes "task 5 1 1048577 0 10\n") ++ codes "JMP 0\nend\n") 6 fault.Number
  pub many_words : IsFirst (nine (codes "task 5 1 1048576 0 10\n") ++ codes "JMP 0\nend\n") 0 fault.Limit
  pub place_before_limit : IsFirst (nine (codes "task 5 1 1048576 0 10\n") ++ codes "JMP 10\nend\n") 16 fault.Place
