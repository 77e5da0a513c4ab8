-- What a use means is one thing, so a file has at most one linked tree.
use Rattle.std.proofs.Common.{◌≡◌, ℕ, List, [], ◌∷◌, ◌++◌, map, Option, Some, None, Contains, refl, sym, ap, ◌∙◌}
use Rattle.tower_syntax.specs.declared.named.Target.{Target}
use Rattle.tower_syntax.specs.RawTree.{Id, Link, RawType, word, rec, array, RawPlace, root, get, index, RawExpr, truth, read, lit, un, bin, choose, cast, RawStmt, bind, local, set, copy, branch, loop, emit, RawStmts, no_stmts, stmt, RawField, RawHpart, emitter, callback, RawPart, state, handler, RawItem, fields, init, period, signal, channel, output, monitor, Raw}
use Rattle.arch_names.specs.declared.names.Declared.{Declared}
use Rattle.arch_names.specs.declared.names.Thing.{Thing}
use Rattle.arch_names.specs.declared.names.Scope.{Scope}
use Rattle.arch_names.specs.declared.fault.Sort.{Sort}
use Rattle.arch_names.specs.declared.fault.Sort.TheVariants as sort
use Rattle.arch_names.specs.Names.{Find, find, serves}
use Rattle.arch_names.specs.Sets.{each, fields_of, states_of, declared_in}
use Rattle.arch_names.specs.Site.{Site, declares, binds, refers, part_type, picks, Means, IsUse}
use Rattle.arch_names.specs.Sites.{Around, around, entry, seen, past, with_name, after, bound_by_all, type_sites, place_sites, expr_sites, stmt_sites, all_sites, hpart_sites, part_sites, field_sites, item_sites, sites}
use Rattle.arch_names.specs.Linked.{linked_type, linked_place, linked_expr, linked_stmt, linked_all, linked_hpart, linked_part, linked_field, linked_item, linked}
use Rattle.arch_names.specs.Resolved.{IsLinked}
use Rattle.arch_names.proofs.Offending.{here, there}

same_some : {X : Type 0} {x y : X} (r : Option X) → r ≡ Some x → r ≡ Some y → x ≡ y
same_some r p q = cc

same_served : (want : Sort) (d e : Declared Thing) (t u : Target) → d ≡ e → serves want d.what ≡ Some t → serves want e.what ≡ Some u → t ≡ u
same_served want d e t u i p q = same_some (serves want d.what) p (ap (λ x. serves want x.what) i ∙ q)

means_once : (s : Site) (t u : Target) → Means s t → Means s u → t ≡ u
means_once (declares first x) t u p q = absurd p
means_once (binds other x) t u p q = absurd p
means_once (refers want found x) t u p q = same_served want p.0 q.0 t u (same_some found p.1 q.1) p.2 q.2
means_once (part_type record_at found x) t u p q = same_served sort.Record p.0 q.0 t u (same_some found p.1 q.1) p.2 q.2
means_once (picks found x) t u p q = sym p.2 ∙ ap (λ d. d.what) (same_some found p.1 q.1) ∙ q.2

module _ (m n : Site → Target) where
  -- the two say the same of each use
  abbrev pub Agree : List Site → Type 0
  Agree [] = Unit {0}
  Agree (s ∷ ss) = (IsUse s → m s ≡ n s) × Agree ss

  agree_from : (ss : List Site) → ((s : Site) → Contains ss s → IsUse s → m s ≡ n s) → Agree ss
  agree_from [] h = tt
  agree_from (s ∷ ss) h = (h s (here s ss), agree_from ss (λ t k. h t (there s t ss k)))

  left : (xs ys : List Site) → Agree (xs ++ ys) → Agree xs
  left [] ys h = tt
  left (x ∷ xs) ys h = (h.0, left xs ys h.1)

  right : (xs ys : List Site) → Agree (xs ++ ys) → Agree ys
  right [] ys h = h
  right (x ∷ xs) ys h = right xs ys h.1

  linked_each : {X W : Type 0} (of : X → List Site) (f g : X → W) → ((x : X) → Agree (of x) → f x ≡ g x) → (xs : List X) → Agree (each of xs) → map f xs ≡ map g xs
  linked_each of f g h [] k = refl
  linked_each of f g h (x ∷ xs) k = λ i. h x (left (of x) (each of xs) k) i ∷ linked_each of f g h xs (right (of x) (each of xs) k) i

  types : (file : Find Thing) (within : Option ℕ) (t : RawType Id) → Agree (type_sites file within t) → linked_type m file within t ≡ linked_type n file within t
  types file within (word at s) h = refl
  types file None (rec u) h = ap (λ t. rec (record { at = u.at; target = t })) (h.0 tt)
  types file (Some record_at) (rec u) h = ap (λ t. rec (record { at = u.at; target = t })) (h.0 tt)
  types file within (array at k t) h = ap (array at k) (types file within t h)

  mutual
    places : (file : Find Thing) (known : Find Target) (p : RawPlace Id) → Agree (place_sites file known p) → linked_place m file known p ≡ linked_place n file known p
    places file known (root u) h = ap (λ t. root (record { at = u.at; target = t })) (h.0 tt)
    places file known (get at p f) h = ap (λ q. get at q f) (places file known p h)
    places file known (index at p e) h = λ i. index at (places file known p (left (place_sites file known p) (expr_sites file known e) h) i) (exprs file known e (right (place_sites file known p) (expr_sites file known e) h) i)

    exprs : (file : Find Thing) (known : Find Target) (e : RawExpr Id) → Agree (expr_sites file known e) → linked_expr m file known e ≡ linked_expr n file known e
    exprs file known (truth at b) h = refl
    exprs file known (read p) h = ap read (places file known p h)
    exprs file known (lit at t k) h = refl
    exprs file known (un at op x) h = ap (un at op) (exprs file known x h)
    exprs file known (bin at op x y) h = λ i. bin at op (exprs file known x (left (expr_sites file known x) (expr_sites file known y) h) i) (exprs file known y (right (expr_sites file known x) (expr_sites file known y) h) i)
    exprs file known (choose at c x y) h =
        let k = left (expr_sites file known c ++ expr_sites file known x) (expr_sites file known y) h in
        λ i. choose at (exprs file known c (left (expr_sites file known c) (expr_sites file known x) k) i) (exprs file known x (right (expr_sites file known c) (expr_sites file known x) k) i) (exprs file known y (right (expr_sites file known c ++ expr_sites file known x) (expr_sites file known y) h) i)
    exprs file known (cast at t x) h = λ i. cast at (types file None t (left (type_sites file None t) (expr_sites file known x) h) i) (exprs file known x (right (type_sites file None t) (expr_sites file known x) h) i)

  mutual
    stmts : (a : Around) (s : Scope) (t : RawStmt Id) → Agree (stmt_sites a s t) → linked_stmt m a s t ≡ linked_stmt n a s t
    stmts a s (bind at x e) h = ap (bind at x) (exprs a.file (seen a s) e h.1)
    stmts a s (local at x t) h = ap (local at x) (types a.file None t h.1)
    stmts a s (set at p e) h = λ i. set at (places a.file (seen a s) p (left (place_sites a.file (seen a s) p) (expr_sites a.file (seen a s) e) h) i) (exprs a.file (seen a s) e (right (place_sites a.file (seen a s) p) (expr_sites a.file (seen a s) e) h) i)
    stmts a s (copy at p q) h = λ i. copy at (places a.file (seen a s) p (left (place_sites a.file (seen a s) p) (place_sites a.file (seen a s) q) h) i) (places a.file (seen a s) q (right (place_sites a.file (seen a s) p) (place_sites a.file (seen a s) q) h) i)
    stmts a s (branch at e then_at ss else_at ts) h =
        let z = past s (bound_by_all ss) in
        let k = left (expr_sites a.file (seen a s) e ++ all_sites a s ss) (all_sites a z ts) h in
        λ i. branch at (exprs a.file (seen a s) e (left (expr_sites a.file (seen a s) e) (all_sites a s ss) k) i) then_at (lists a s ss (right (expr_sites a.file (seen a s) e) (all_sites a s ss) k) i) else_at (lists a z ts (right (expr_sites a.file (seen a s) e ++ all_sites a s ss) (all_sites a z ts) h) i)
    stmts a s (loop at x k body) h = ap (loop at x k) (lists a (with_name s x) body h.1)
    stmts a s (emit at u e) h = λ i. emit at (record { at = u.at; target = h.0 tt i }) (exprs a.file (seen a s) e h.1 i)

    lists : (a : Around) (s : Scope) (ts : RawStmts Id) → Agree (all_sites a s ts) → linked_all m a s ts ≡ linked_all n a s ts
    lists a s no_stmts h = refl
    lists a s (stmt t ts) h = λ i. stmt (stmts a s t (left (stmt_sites a s t) (all_sites a (after s t) ts) h) i) (lists a (after s t) ts (right (stmt_sites a s t) (all_sites a (after s t) ts) h) i)

  hparts : (a : Around) (p : RawHpart Id) → Agree (hpart_sites a p) → linked_hpart m a p ≡ linked_hpart n a p
  hparts a (emitter at x u bound) h = ap (λ t. emitter at x (record { at = u.at; target = t }) bound) (h.1.0 tt)
  hparts a (callback at x ss) h = ap (callback at x) (lists a (entry x) ss h.1)

  parts : (file : Find Thing) (states : Find Target) (p : RawPart Id) → Agree (part_sites file states p) → linked_part m file states p ≡ linked_part n file states p
  parts file states (state at x t) h = ap (state at x) (types file None t h.1)
  parts file states (handler at x u hs) h = let a = around file states hs in λ i. handler at x (record { at = u.at; target = h.1.0 tt i }) (linked_each (hpart_sites a) (linked_hpart m a) (linked_hpart n a) (hparts a) hs h.1.1 i)

  fields_once : (file : Find Thing) (record_at : ℕ) (names : Find (Unit {0})) (f : RawField Id) → Agree (field_sites file record_at names f) → linked_field m file record_at f ≡ linked_field n file record_at f
  fields_once file record_at names f h = ap (λ t. record { at = f.at; name = f.name; ty = t }) (types file (Some record_at) f.ty h.1)

  items : (file : Find Thing) (p : RawItem Id) → Agree (item_sites file p) → linked_item m file p ≡ linked_item n file p
  items file (fields at x fs) h = ap (fields at x) (linked_each (field_sites file x.at (find (fields_of fs))) (linked_field m file x.at) (linked_field n file x.at) (fields_once file x.at (find (fields_of fs))) fs h.1)
  items file (init at x p) h = refl
  items file (period at x ms p d) h = refl
  items file (signal at x t p d) h = ap (λ y. signal at x y p d) (types file None t h.1)
  items file (channel at x t) h = ap (channel at x) (types file None t h.1)
  items file (output at x u) h = ap (λ t. output at x (record { at = u.at; target = t })) (h.1.0 tt)
  items file (monitor at x ps) h = let states = find (states_of ps) in ap (monitor at x) (linked_each (part_sites file states) (linked_part m file states) (linked_part n file states) (parts file states) ps h.1)

  wholes : (raw : Raw Id) → Agree (sites raw) → linked m raw ≡ linked n raw
  wholes raw h = let file = find (declared_in raw.items) in ap (λ is. record { at = raw.at; version = raw.version; name = raw.name; items = is }) (linked_each (item_sites file) (linked_item m file) (linked_item n file) (items file) raw.items h)

pub linked_once : (raw : Raw Id) (t u : Raw Link) → IsLinked raw t → IsLinked raw u → t ≡ u
linked_once raw t u p q = p.2 ∙ wholes p.0 q.0 raw (agree_from p.0 q.0 (sites raw) (λ s k used. means_once s (p.0 s) (q.0 s) (p.1 s k used) (q.1 s k used))) ∙ sym q.2
