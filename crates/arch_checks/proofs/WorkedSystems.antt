-- Texts that are accepted, and faults of bounds and links, computed.
use Rattle.std.proofs.Common.{[], ◌∷◌, refl}
use Rattle.std.specs.Prelude.{codes}
use Rattle.std.specs.Fmt.{digits}
use Rattle.tower_syntax.specs.Examples as example
use Rattle.arch_checks.specs.declared.fault.Fault.TheVariants as fault
use Rattle.arch_checks.specs.WorkedSystems.{WorkedSystems, emitting, linking, WorkedBounds, WorkedLinks, WorkedWeights}
use Rattle.arch_checks.proofs.Computed.{accepted_by, accepted_text, cycle_text, bound_text, weighs_text}

pub worked_systems : WorkedSystems
unfolding digits
worked_systems = record {
  clock = accepted_by _ example.clock refl refl refl refl refl;
  two = accepted_by _ example.two refl refl refl refl refl;
  inv = accepted_by _ example.inv refl refl refl refl refl;
  share = accepted_by _ example.share refl refl refl refl refl;
  dia = accepted_by _ example.dia refl refl refl refl refl;
  emitters = accepted_by _ example.order refl refl refl refl refl;
  cyc = accepted_by _ example.cyc refl refl refl refl refl;
  nav = accepted_by _ example.nav refl refl refl refl refl;
  late = accepted_by _ example.late refl refl refl refl refl;
  burst = accepted_by _ example.burst refl refl refl refl refl;
}

pub worked_bounds : WorkedBounds
unfolding digits
worked_bounds = record {
  turns = accepted_text (emitting (codes "4") (codes "(for i 4 (emit e v))")) refl refl refl refl refl;
  too_many_turns = bound_text (emitting (codes "3") (codes "(for i 4 (emit e v))")) refl refl refl refl (fault.Bound (codes "h") (codes "e") 4 3) refl;
  greater_branch = accepted_text (emitting (codes "2") (codes "(if true (then (emit e v) (emit e v)) (else (emit e v)))")) refl refl refl refl refl;
  none_allowed = bound_text (emitting (codes "0") (codes "(emit e v)")) refl refl refl refl (fault.Bound (codes "h") (codes "e") 1 0) refl;
}

pub worked_links : WorkedLinks
unfolding digits
worked_links = record {
  round = cycle_text (linking (codes "(callback v (emit e v))") (codes "(handler h a (emitter e b 1)) (handler k b (emitter e a 1))")) refl refl (record { source = 0; walk = 1 ∷ 2 ∷ [] }) refl (fault.Cycle (codes "s") (codes "h" ∷ codes "k" ∷ [])) refl;
  to_itself = cycle_text (linking [] (codes "(handler h a (emitter e a 1))")) refl refl (record { source = 0; walk = 1 ∷ [] }) refl (fault.Cycle (codes "s") (codes "h" ∷ [])) refl;
  not_reached = accepted_text (linking [] (codes "(handler h b (emitter e b 1))")) refl refl refl refl refl;
  bound_before_cycle = bound_text (linking (codes "(callback v (emit e v) (emit e v))") (codes "(handler h a (emitter e a 1))")) refl refl refl refl (fault.Bound (codes "g") (codes "e") 2 1) refl;
}

pub worked_weights : WorkedWeights
unfolding digits
worked_weights = record {
  unused = weighs_text _ refl refl refl refl refl _ _ _ refl refl refl;
  whole = weighs_text _ refl refl refl refl refl _ _ _ refl refl refl;
}
