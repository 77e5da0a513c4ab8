use Rattle.std.proofs.Common.{◌≡◌, ℕ, ◌<◌, ◌≤◌, length, arith, sym, ap, ◌∙◌, subst, inl, inr}
use Rattle.std.proofs.lemmas.Bool.{cases_eq, cases_lt}
use Rattle.task_machine.specs.Noted.{IsNoted, IsInNone}
use Rattle.task_machine.proofs.Settling.{noted_stays, noted_beyond}
use Rattle.task_machine.proofs.noted.Noted.note_actions.Goals as goal

pub loop-x-preserved : goal.loop-x-preserved
loop-x-preserved c =
    let s = c.args.running.now in
    let x = c.loop-x.x in
    let inv = c.loop-x.invariant in
    let n = c.loop-x.self in
    let later = c.note.new.self in
    let stay = c.note.ensures.others in
    record {
      places = c.note.ensures.places;
      done = λ y h. elim (cases_eq y x) [
        | inl same ↦ subst (IsNoted s later) (sym same) c.note.ensures.here
        | inr o ↦ noted_stays s x y n later stay o (inv.done y (omega (arith, h, o)))
      ];
      ahead = λ y h m row at.
          let o : y ≡ x → ⊥ = λ e. absurd (omega (arith, h, e)) in
          let was = stay.rows m row at in
          was.2 y o ∙ inv.ahead y (omega (arith, h)) m was.0 was.1;
      clear = stay.clear ∙ inv.clear;
    }

pub returns-clause-each : goal.returns-clause-each
returns-clause-each c = λ y.
    let s = c.args.running.now in
    let inv = c.loop-x.invariant in
    elim (cases_lt y c.loop-x.x) [
      | inl h ↦ inv.done y h
      | inr h ↦
          let past : length s.program.tasks ≤ y = let e = c.sources-x-end.ensures.tasks in let t = c.loop-x-test.false in omega (arith, h, e, t) in
          noted_beyond s c.loop-x.self y inv.places (inv.ahead y h) past
    ]
