-- The worked texts, computed.
use Rattle.std.proofs.Common.{◌≤◌, [], All, refl, arith}
use Rattle.std.specs.Fmt.{digits}
use Rattle.std.proofs.lemmas.Int.{ints}
use Rattle.std.proofs.lemmas.List.Elements.{All-nil, All-cons, All-from_recursion}
use Rattle.task_code.specs.WorkedListing.{counter, counter_task, instructions}
use Rattle.task_code.specs.Rules.{IsInstr, IsBuffer, IsTask, most_words}
use Rattle.task_listing.specs.Laws.{IsProgram}
use Rattle.task_listing.specs.WorkedTexts.{WorkedTexts}
use Rattle.task_listing.proofs.Verdicts.{fault_is_first}

counter_code : All (IsInstr counter counter_task) instructions
counter_code =
    All-from_recursion (IsInstr counter counter_task) instructions
    (omega arith, (omega arith, ((omega (arith, ints), omega (arith, ints)), ((omega (arith, ints), omega (arith, ints)), ((omega arith, (omega arith, omega arith)), ((omega (arith, ints), omega (arith, ints)), (tt, ((omega arith, (omega arith, omega arith)), (omega arith, (omega arith, tt))))))))))

counter_is_task : IsTask counter counter_task
counter_is_task = record { message = (omega arith, omega arith); room = omega arith; few_buffers = omega arith; buffers = All-nil IsBuffer; code = counter_code }

counter_is_program : IsProgram counter
counter_is_program = record {
  rules = record {
    few_monitors = omega arith;
    few_outputs = omega arith;
    few_tasks = omega arith;
    monitors = All-cons (λ n. n ≤ most_words) 1 [] (omega arith) (All-nil (λ n. n ≤ most_words));
    outputs = All-nil (λ n. n ≤ most_words);
    tasks = All-cons (IsTask counter) counter_task [] counter_is_task (All-nil (IsTask counter));
    words = omega arith;
    instructions = omega arith;
  };
  priorities = All-cons (λ t. t.priority ≤ 255) counter_task [] (omega arith) (All-nil (λ t. t.priority ≤ 255));
}

pub worked : WorkedTexts
unfolding digits
worked = record {
  is_program = counter_is_program;
  counter_text = refl;
  nothing = fault_is_first _ _ _ refl;
  no_last_lf = fault_is_first _ _ _ refl;
  no_last_line = fault_is_first _ _ _ refl;
  no_two_lines = fault_is_first _ _ _ refl;
  empty_line = fault_is_first _ _ _ refl;
  part_of_end = fault_is_first _ _ _ refl;
  bytes_behind = fault_is_first _ _ _ refl;
  line_behind = fault_is_first _ _ _ refl;
  past_the_code = fault_is_first _ _ _ refl;
  below_the_code = fault_is_first _ _ _ refl;
  far_past_the_code = fault_is_first _ _ _ refl;
  of_bool = fault_is_first _ _ _ refl;
  of_no_value = fault_is_first _ _ _ refl;
  of_no_number = fault_is_first _ _ _ refl;
  misspelt = fault_is_first _ _ _ refl;
  negative_zero = fault_is_first _ _ _ refl;
  blank_at_end = fault_is_first _ _ _ refl;
  tab = fault_is_first _ _ _ refl;
  no_operand = fault_is_first _ _ _ refl;
  no_operation = fault_is_first _ _ _ refl;
  too_much_to_push = fault_is_first _ _ _ refl;
  too_little_to_push = fault_is_first _ _ _ refl;
  line_before_short = fault_is_first _ _ _ refl;
  short_before_place = fault_is_first _ _ _ refl;
  line_before_place = fault_is_first _ _ _ refl;
  after_before_place = fault_is_first _ _ _ refl;
  line_before_number = fault_is_first _ _ _ refl;
  high_priority = fault_is_first _ _ _ refl;
  no_message = fault_is_first _ _ _ refl;
  large_room = fault_is_first _ _ _ refl;
  many_words = fault_is_first _ _ _ refl;
  place_before_limit = fault_is_first _ _ _ refl;
}
