-- What was read of choices is what the text spells, or its first fault.
use Rattle.std.proofs.Common.{◌≡◌, ◌≤◌, ℕ, List, [], ◌∷◌, ◌++◌, refl, length, arith}
use Rattle.std.specs.Prelude.{All, Ok, Err}
use Rattle.std.proofs.lemmas.List.Elements.{All-append, All-push}
use Rattle.tower_syntax.specs.declared.event.Choice.{Choice}
use Rattle.event_record.specs.declared.choices.ChoiceFault.{ChoiceFault}
use Rattle.event_record.specs.declared.choices.ChoiceFault.TheVariants as fault
use Rattle.event_record.specs.Lines.{Bytes, lines, words}
use Rattle.event_record.specs.Format.{Format, byte_limit, AllMake, no_lines, a_line, Spells}
use Rattle.event_record.specs.Judged.{walk}
use Rattle.event_record.specs.Choices.{SpellsChoice, go, go_often, see, see_often, ev, ev_often, idle, MakesChoices, nothing, one_choice, choices_format, SpellsChoices, IsChoiceFault, IsInRange}
use Rattle.event_record.specs.ChoiceLine.{judge_choice, over_choices, IsTold}
use Rattle.event_record.proofs.Exact.{spells, first_fault}
use Rattle.event_record.proofs.ChoicesAgree.{choices_agree}

pub choices_spelled : (text : Bytes) (all : List Choice) → length text ≤ byte_limit → walk judge_choice over_choices 1 [] (lines text) ≡ Ok all → SpellsChoices text all
choices_spelled text all h w = spells choices_agree text all h refl w

pub choices_told : (text : Bytes) (f : ChoiceFault) → length text ≤ byte_limit → IsTold (walk judge_choice over_choices 1 [] (lines text)) f → IsChoiceFault text f
choices_told text (fault.At n k) h w = first_fault choices_agree text n k h w
choices_told text fault.NoMemory h w = tt

in_range : (ws : List Bytes) (c : Choice) → SpellsChoice ws c → IsInRange c
in_range ws c (go w) = (w.greatest, (omega arith, omega arith))
in_range ws c (go_often w v) = (w.greatest, (v.least, v.greatest))
in_range ws c (see w) = (w.greatest, (omega arith, omega arith))
in_range ws c (see_often w v) = (w.greatest, (v.least, v.greatest))
in_range ws c ev = (omega arith, omega arith)
in_range ws c (ev_often v) = (v.least, v.greatest)
in_range ws c idle = tt

-- what lines make is in range where that of each line is
pub all_hold : {A K : Type 0} (f : Format A K) (P : A → Type 0) → ((l : Bytes) (new : List A) → f.Makes l new → All P new) → (ls : List Bytes) (all : List A) → AllMake f ls all → All P all
all_hold f P h [] all no_lines = λ k d g. absurd (omega (arith, g))
all_hold f P h (l ∷ ls) all (a_line {made = made} {more = more} m r) = All-append P made more (h l made m) (all_hold f P h ls more r)

line_in_range : (l : Bytes) (new : List Choice) → MakesChoices l new → All IsInRange new
line_in_range l new (nothing h) = λ k d g. absurd (omega (arith, g))
line_in_range l new (one_choice {c = c} s) = All-push IsInRange [] c (λ k d g. absurd (omega (arith, g))) (in_range (words l) c s)

pub choices_in_range : (text : Bytes) (all : List Choice) → SpellsChoices text all → All IsInRange all
choices_in_range text all s = all_hold choices_format IsInRange line_in_range (lines text) all s.makes
