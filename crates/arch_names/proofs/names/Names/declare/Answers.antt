use Rattle.std.proofs.Common.{◌++◌, ◌∷◌, [], refl, ◌∙◌, sym, ap}
use Rattle.arch_names.proofs.Trees.{stays, never, absent, declares}
use Rattle.arch_names.proofs.names.Names.declare.Goals as goal

pub returns-then-contains_key-clause-ok : goal.returns-then-contains_key-clause-ok
returns-then-contains_key-clause-ok g c = stays (λ k. k.items) _ _ _ c.self.view_is c.self.invariant _ _ c.bytes.ensures.value _ _ c.if-contains_key.true c.contains_key.ensures

pub returns-then-contains_key-clause-fresh : goal.returns-then-contains_key-clause-fresh
returns-then-contains_key-clause-fresh g c = never (λ k. k.items) _ _ _ c.self.view_is c.self.invariant _ _ c.bytes.ensures.value _ c.if-contains_key.true c.contains_key.ensures

pub invariant_of-self-in-Ok : goal.invariant_of-self-in-Ok
invariant_of-self-in-Ok g c =
    let key = c.in_ok-key.ensures.items ∙ c.bytes-2.ensures.value in
    let none = absent (λ k. k.items) _ _ _ refl c.self.invariant _ _ (c.bytes.ensures.value ∙ sym key) _ c.if-contains_key.false c.contains_key.ensures in
    declares (λ k. k.items) _ _ _ c.in_ok-key.key.items c.args.declared c.self.invariant none c.in-Ok.ensures.updates.1 c.in-Ok.ensures.updates.3
    _ (c.in_ok-push.ensures.ok ∙ ap (λ n. c.self.inside.order ++ (n, c.args.declared) ∷ []) (c.in_ok-copy.ensures ∙ sym key))
