-- What is wrong with a line by itself: each answer, and when it comes.
use Rattle.std.proofs.Common.{◌≡◌, ◌⊎◌, ◌∙◌, inl, inr, Bool, true, false, not, List, Option, Some, None, Ok, Err, refl, sym, ap}
use Rattle.std.specs.Prelude.{◌↔◌}
use Rattle.task_code.specs.declared.program.Instr.{Instr}
use Rattle.task_listing.specs.declared.fault.ListKind.{ListKind}
use Rattle.task_listing.specs.declared.fault.ListKind.TheVariants as fault
use Rattle.task_listing.specs.declared.kind.Kind.TheVariants as kind
use Rattle.task_listing.specs.Lines.{Bytes}
use Rattle.task_listing.specs.Context.{Context}
use Rattle.task_listing.specs.Answers.{Answer, instr_line}
use Rattle.task_listing.specs.Judging.{fault_in, judge_kind, keeps, is_misplaced}
use Rattle.task_listing.specs.Forms.{AtSight, IsSpelled, Has, IsJudged}
use Rattle.task_listing.specs.Laws.{RightLines, WrongLines, WrongNumbers, NoOtherKind, IsNoneHere, WrongPlaces, LinesAreRows}
use Rattle.task_listing.proofs.Spelled.{instr_is}
use Rattle.task_listing.proofs.Backs.{instr_back}
use Rattle.task_listing.proofs.Formed.{lines_judged}

pub rows : LinesAreRows
rows ws i = (instr_is ws i, λ s. ap instr_line s.same ∙ instr_back i s.operands s.small)

-- ---- each answer

right_by : (S T : Type 0) (o : Option ListKind) → IsJudged S T o → (o ≡ None) ↔ (S × T)
right_by S T None j = (λ e. j, λ h. refl)
right_by S T (Some fault.Line) j = (λ e. cc, λ h. absurd (j h.0))
right_by S T (Some fault.Number) j = (λ e. cc, λ h. absurd (j.1 h.1))
right_by S T (Some _) j = absurd j

line_by : (S T : Type 0) (o : Option ListKind) → IsJudged S T o → (o ≡ Some fault.Line) ↔ (S → ⊥)
line_by S T None j = (λ e. cc, λ h. absurd (h j.0))
line_by S T (Some fault.Line) j = (λ e. j, λ h. refl)
line_by S T (Some fault.Number) j = (λ e. cc, λ h. absurd (h j.0))
line_by S T (Some _) j = absurd j

number_by : (S T : Type 0) (o : Option ListKind) → IsJudged S T o → (o ≡ Some fault.Number) ↔ (S × (T → ⊥))
number_by S T None j = (λ e. cc, λ h. absurd (h.1 j.1))
number_by S T (Some fault.Line) j = (λ e. cc, λ h. absurd (j h.0))
number_by S T (Some fault.Number) j = (λ e. j, λ h. refl)
number_by S T (Some _) j = absurd j

other_by : (S T : Type 0) (o : Option ListKind) (k : ListKind) → IsJudged S T o → o ≡ Some k → (k ≡ fault.Line) ⊎ (k ≡ fault.Number)
other_by S T None k j e = cc
other_by S T (Some fault.Line) k j e = let q : k ≡ fault.Line = cc in inl q
other_by S T (Some fault.Number) k j e = let q : k ≡ fault.Number = cc in inr q
other_by S T (Some _) k j e = absurd j

pub right_lines : RightLines
right_lines k ws = right_by (Has AtSight k ws) (Has IsSpelled k ws) (judge_kind k ws) (lines_judged k ws)

pub wrong_lines : WrongLines
wrong_lines k ws = line_by (Has AtSight k ws) (Has IsSpelled k ws) (judge_kind k ws) (lines_judged k ws)

pub wrong_numbers : WrongNumbers
wrong_numbers k ws = number_by (Has AtSight k ws) (Has IsSpelled k ws) (judge_kind k ws) (lines_judged k ws)

pub no_other : NoOtherKind
no_other k ws j e = other_by (Has AtSight k ws) (Has IsSpelled k ws) (judge_kind k ws) j (lines_judged k ws) e

-- ---- rules

not_true : (b : Bool) → (b ≡ true → ⊥) → not b ≡ true
not_true true h = absurd (h refl)
not_true false h = refl

not_both : (b : Bool) → not b ≡ true → b ≡ true → ⊥
not_both true h g = cc
not_both false h g = cc

abbrev read_as : Instr → Answer (Option Instr)
read_as i = Ok (Some i)

abbrev read_none : Answer (Option Instr)
read_none = Ok None

same_instr : (i k : Instr) → read_as i ≡ read_as k → i ≡ k
same_instr i k e = cc

not_right : (S T : Type 0) (k : ListKind) → IsJudged S T (Some k) → S × T → ⊥
not_right S T fault.Line j h = j h.0
not_right S T fault.Number j h = j.1 h.1
not_right S T _ j h = j

place_by : (S T : Type 0) (c : Context) (ws : List Bytes) (r : Answer (Option Instr)) → instr_line ws ≡ r → IsJudged S T (fault_in r)
    → (is_misplaced c r ≡ true) ↔ ((S × T) × IsNoneHere c ws)
place_by S T c ws (Ok (Some i)) e j = (
  λ h. (
    j,
    λ k s g.
        let q : read_as i ≡ read_as k = sym e ∙ (rows ws k).1 s in
        not_both (keeps c.monitors c.outputs c.head i) h (ap (keeps c.monitors c.outputs c.head) (same_instr i k q) ∙ g),
  ),
  λ h. not_true (keeps c.monitors c.outputs c.head i) (h.1 i ((rows ws i).0 e)),
)
place_by S T c ws (Ok None) e j = (λ h. (j, λ k s g. let q : read_none ≡ read_as k = sym e ∙ (rows ws k).1 s in cc), λ h. refl)
place_by S T c ws (Err k) e j = (λ h. cc, λ h. absurd (not_right S T k j h.0))

pub wrong_places : WrongPlaces
wrong_places c ws = place_by (Has AtSight kind.Instruction ws) (Has IsSpelled kind.Instruction ws) c ws (instr_line ws) refl (lines_judged kind.Instruction ws)
