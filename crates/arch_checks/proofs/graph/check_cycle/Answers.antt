use Rattle.std.proofs.Common.{◌≡◌, ◌<◌, inr, length, map, All, sym, ap, ◌∙◌, subst}
use Rattle.tower_syntax.specs.View.{source_of}
use Rattle.arch_checks.specs.declared.fault.Fault.TheVariants.{Cycle}
use Rattle.arch_checks.specs.Offences.{source_name, handler_name}
use Rattle.arch_checks.proofs.Shown.{shown_source, shown_walk}
use Rattle.arch_checks.proofs.Works.{source_got}
use Rattle.arch_checks.proofs.graph.check_cycle.Goals as goal

pub handler_names-requires : goal.handler_names-requires
handler_names-requires c =
    subst (λ ks. All (λ h. h < length c.args.arch.now.handlers) ks) (sym c.as_slice.ensures) (shown_walk c.args.arch.now c.in-Some.found (sym c.in_ok-cycle.ensures.shown ∙ c.in-Some.is))

pub source-requires : goal.source-requires
source-requires c = shown_source c.args.arch.now c.in-Some.found (sym c.in_ok-cycle.ensures.shown ∙ c.in-Some.is)

pub returns-in_ok-source-in-Some-clause-fault : goal.returns-in_ok-source-in-Some-clause-fault
returns-in_ok-source-in-Some-clause-fault c =
    let arch = c.args.arch.now in
    let found = c.in-Some.found in
    let name : c.in_ok-source-in-Some.source ≡ source_name arch found.source = c.in_ok-source-in-Some.ensures ∙ sym (source_got arch.sources found.source (source_of c.source.result.now) c.source.ensures.value) in
    let names : c.in_ok-walk-in-Some.walk ≡ map (handler_name arch) found.walk = c.in_ok-walk-in-Some.ensures ∙ ap (map (handler_name arch)) c.as_slice.ensures in
    inr (record {
      found = found;
      shown = sym c.in_ok-cycle.ensures.shown ∙ c.in-Some.is;
      told = λ i. Cycle (name i) (names i);
    })
