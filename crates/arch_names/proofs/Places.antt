-- The sites of a file stand where its names are written.
use Rattle.std.proofs.Common.{◌≡◌, ℕ, List, [], ◌∷◌, ◌++◌, map, Option, Some, None, refl, ap, ◌∙◌}
use Rattle.tower_syntax.specs.declared.named.Target.{Target}
use Rattle.tower_syntax.specs.RawTree.{Id, RawType, word, rec, array, RawPlace, root, get, index, RawExpr, truth, read, lit, un, bin, choose, cast, RawStmt, bind, local, set, copy, branch, loop, emit, RawStmts, no_stmts, stmt, RawField, RawHpart, emitter, callback, RawPart, state, handler, RawItem, fields, init, period, signal, channel, output, monitor, Raw}
use Rattle.arch_names.specs.declared.names.Thing.{Thing}
use Rattle.arch_names.specs.declared.names.Scope.{Scope}
use Rattle.arch_names.specs.Names.{Find, find}
use Rattle.arch_names.specs.Sets.{each, fields_of, states_of, declared_in}
use Rattle.arch_names.specs.Site.{Site, id_at}
use Rattle.arch_names.specs.Sites.{Around, around, entry, seen, past, with_name, after, bound_by_all, type_sites, place_sites, expr_sites, stmt_sites, all_sites, hpart_sites, part_sites, field_sites, item_sites, sites}
use Rattle.arch_names.specs.Written.{in_type, in_place, in_expr, in_stmt, in_stmts, in_hpart, in_part, in_field, in_item, written}

abbrev pub places : List Site → List ℕ
places ss = map (λ s. (id_at s).at) ss

places-append : (xs ys : List Site) → places (xs ++ ys) ≡ places xs ++ places ys
places-append [] ys = refl
places-append (x ∷ xs) ys = ap (λ r. (id_at x).at ∷ r) (places-append xs ys)

-- two lists, one after the other
both : (xs ys : List Site) (ms ns : List ℕ) → places xs ≡ ms → places ys ≡ ns → places (xs ++ ys) ≡ ms ++ ns
both xs ys ms ns p q = places-append xs ys ∙ (λ i. p i ++ q i)

each_place : {X : Type 0} (of : X → List Site) (w : X → List ℕ) → ((x : X) → places (of x) ≡ w x) → (xs : List X) → places (each of xs) ≡ each w xs
each_place of w h [] = refl
each_place of w h (x ∷ xs) = both (of x) (each of xs) (w x) (each w xs) (h x) (each_place of w h xs)

type_places : (file : Find Thing) (within : Option ℕ) (t : RawType Id) → places (type_sites file within t) ≡ in_type t
type_places file within (word at s) = refl
type_places file None (rec u) = refl
type_places file (Some record_at) (rec u) = refl
type_places file within (array at n t) = type_places file within t

module _ (file : Find Thing) (known : Find Target) where
  mutual
    place_places : (p : RawPlace Id) → places (place_sites file known p) ≡ in_place p
    place_places (root u) = refl
    place_places (get at p f) = place_places p
    place_places (index at p e) = both (place_sites file known p) (expr_sites file known e) (in_place p) (in_expr e) (place_places p) (expr_places e)

    expr_places : (e : RawExpr Id) → places (expr_sites file known e) ≡ in_expr e
    expr_places (truth at b) = refl
    expr_places (read p) = place_places p
    expr_places (lit at t n) = refl
    expr_places (un at op x) = expr_places x
    expr_places (bin at op x y) = both (expr_sites file known x) (expr_sites file known y) (in_expr x) (in_expr y) (expr_places x) (expr_places y)
    expr_places (choose at c x y) = both (expr_sites file known c ++ expr_sites file known x) (expr_sites file known y) (in_expr c ++ in_expr x) (in_expr y) (both (expr_sites file known c) (expr_sites file known x) (in_expr c) (in_expr x) (expr_places c) (expr_places x)) (expr_places y)
    expr_places (cast at t x) = both (type_sites file None t) (expr_sites file known x) (in_type t) (in_expr x) (type_places file None t) (expr_places x)

mutual
  stmt_places : (a : Around) (s : Scope) (t : RawStmt Id) → places (stmt_sites a s t) ≡ in_stmt t
  stmt_places a s (bind at x e) = ap (λ r. x.at ∷ r) (expr_places a.file (seen a s) e)
  stmt_places a s (local at x t) = ap (λ r. x.at ∷ r) (type_places a.file None t)
  stmt_places a s (set at p e) = both (place_sites a.file (seen a s) p) (expr_sites a.file (seen a s) e) (in_place p) (in_expr e) (place_places a.file (seen a s) p) (expr_places a.file (seen a s) e)
  stmt_places a s (copy at p q) = both (place_sites a.file (seen a s) p) (place_sites a.file (seen a s) q) (in_place p) (in_place q) (place_places a.file (seen a s) p) (place_places a.file (seen a s) q)
  stmt_places a s (branch at e then_at ss else_at ts) =
      let z = past s (bound_by_all ss) in
      both (expr_sites a.file (seen a s) e ++ all_sites a s ss) (all_sites a z ts) (in_expr e ++ in_stmts ss) (in_stmts ts) (both (expr_sites a.file (seen a s) e) (all_sites a s ss) (in_expr e) (in_stmts ss) (expr_places a.file (seen a s) e) (all_places a s ss)) (all_places a z ts)
  stmt_places a s (loop at x n body) = ap (λ r. x.at ∷ r) (all_places a (with_name s x) body)
  stmt_places a s (emit at u e) = ap (λ r. u.at ∷ r) (expr_places a.file (seen a s) e)

  all_places : (a : Around) (s : Scope) (ts : RawStmts Id) → places (all_sites a s ts) ≡ in_stmts ts
  all_places a s no_stmts = refl
  all_places a s (stmt t ts) = both (stmt_sites a s t) (all_sites a (after s t) ts) (in_stmt t) (in_stmts ts) (stmt_places a s t) (all_places a (after s t) ts)

hpart_places : (a : Around) (p : RawHpart Id) → places (hpart_sites a p) ≡ in_hpart p
hpart_places a (emitter at x u bound) = refl
hpart_places a (callback at x ss) = ap (λ r. x.at ∷ r) (all_places a (entry x) ss)

part_places : (file : Find Thing) (states : Find Target) (p : RawPart Id) → places (part_sites file states p) ≡ in_part p
part_places file states (state at x t) = ap (λ r. x.at ∷ r) (type_places file None t)
part_places file states (handler at x u hs) = ap (λ r. x.at ∷ u.at ∷ r) (each_place (hpart_sites (around file states hs)) in_hpart (hpart_places (around file states hs)) hs)

field_places : (file : Find Thing) (record_at : ℕ) (names : Find (Unit {0})) (f : RawField Id) → places (field_sites file record_at names f) ≡ in_field f
field_places file record_at names f = ap (λ r. f.name.at ∷ r) (type_places file (Some record_at) f.ty)

item_places : (file : Find Thing) (t : RawItem Id) → places (item_sites file t) ≡ in_item t
item_places file (fields at x fs) = ap (λ r. x.at ∷ r) (each_place (field_sites file x.at (find (fields_of fs))) in_field (field_places file x.at (find (fields_of fs))) fs)
item_places file (init at x p) = refl
item_places file (period at x ms p d) = refl
item_places file (signal at x t p d) = ap (λ r. x.at ∷ r) (type_places file None t)
item_places file (channel at x t) = ap (λ r. x.at ∷ r) (type_places file None t)
item_places file (output at x u) = refl
item_places file (monitor at x ps) = ap (λ r. x.at ∷ r) (each_place (part_sites file (find (states_of ps))) in_part (part_places file (find (states_of ps))) ps)

pub site_places : (raw : Raw Id) → places (sites raw) ≡ written raw
site_places raw = each_place (item_sites (find (declared_in raw.items))) in_item (item_places (find (declared_in raw.items))) raw.items
