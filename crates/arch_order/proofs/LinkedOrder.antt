-- The parts of a linked file that lies in a text stand in text order.
use Rattle.std.proofs.Common.{◌≡◌, ℕ, suc, ◌+◌, ◌<◌, ◌≤◌, List, [], ◌∷◌, ◌++◌, map, length, Bool, None, refl, sym, ap, subst, ◌∙◌, append_assoc, arith}
use Rattle.tower_syntax.specs.declared.named.Target.{Target}
use Rattle.tower_syntax.specs.RawTree.{Id, Link, RawType, word, rec, array, RawPlace, root, get, index, RawExpr, truth, read, lit, un, bin, choose, cast, RawStmt, bind, local, set, copy, branch, loop, emit, RawStmts, no_stmts, stmt, RawHpart, emitter, callback, RawPart, state, handler, RawItem, fields, init, period, signal, channel, output, monitor, Raw}
use Rattle.tower_syntax.specs.Offset.{link_offset, type_offset, place_offset, expr_offset, stmt_offset}
use Rattle.tower_reader.specs.Spelled.{Spells}
use Rattle.arch_names.specs.declared.names.Thing.{Thing}
use Rattle.arch_names.specs.declared.names.Scope.{Scope}
use Rattle.arch_names.specs.Names.{Find, find}
use Rattle.arch_names.specs.Sets.{declared_in, states_of}
use Rattle.arch_names.specs.Site.{Site}
use Rattle.arch_names.specs.Sites.{Around, around, entry, seen, with_name, after, bound_by_all}
use Rattle.arch_names.specs.Sites.{past as past_binders}
use Rattle.arch_names.specs.Linked.{linked_type, linked_place, linked_expr, linked_stmt, linked_all, linked_hpart, linked_part, linked_item, linked}
use Rattle.arch_names.specs.Resolved.{IsLinked}
use Rattle.arch_types.specs.Order.{AscendsPlace, AscendsStmt, AscendsAll, start_in}
use Rattle.arch_types.specs.Order.{Ascends as AscendsExpr}
use Rattle.arch_types.specs.Outline.{each, Written, written_of, handlers_from, callback_of}
use Rattle.arch_types.specs.File.{start_of, AscendCallbacks, AscendsFile}
use Rattle.arch_order.proofs.InText.{AllLie, TypeLies, PlaceLies, ExprLies, StmtLies, StmtsLie, HpartLies, PartLies, ItemLies, TowerLies}
use Rattle.arch_order.proofs.Kept.{file_lies}

past : (at x : ℕ) → at + 1 ≤ x → at < x
past at x h = omega (arith, h)

module _ (m : Site → Target) (file : Find Thing) where
  -- where a type stands
  type_stands : (t : RawType Id) (n a b : ℕ) → TypeLies n t a b → (a ≤ type_offset link_offset (linked_type m file None t)) × (type_offset link_offset (linked_type m file None t) < b)
  type_stands (word at s) n a b h = (h.0.0, h.0.1)
  type_stands (rec u) n a b h = (h.0, h.1)
  type_stands (array at len t) n a b h = let k = type_stands t (suc n) h.1.0 h.1.2.0 h.1.2.1 in (h.0, omega (arith, h.1.1.0, k.0, k.1, h.1.2.2))

  module _ (known : Find Target) where
    place_starts : (p : RawPlace Id) (n a b : ℕ) → PlaceLies n p a b → a ≤ place_offset link_offset (linked_place m file known p)
    place_starts (root u) n a b h = h.0
    place_starts (get at p f) n a b h = h.0
    place_starts (index at p e) n a b h = h.0

    expr_starts : (e : RawExpr Id) (n a b : ℕ) → ExprLies n e a b → a ≤ expr_offset link_offset (linked_expr m file known e)
    expr_starts (truth at v) n a b h = h.0
    expr_starts (read p) n a b h = place_starts p n a b h
    expr_starts (lit at s z) n a b h = h.0.0
    expr_starts (un at op x) n a b h = h.0
    expr_starts (bin at op x y) n a b h = h.0
    expr_starts (choose at x y z) n a b h = h.0
    expr_starts (cast at t x) n a b h = h.0

    mutual
      place_order : (p : RawPlace Id) (n a b end : ℕ) → PlaceLies n p a b → b ≤ end → AscendsPlace (linked_place m file known p) end
      place_order (root u) n a b end h l = omega (arith, h.1, l)
      place_order (get at p f) n a b end h l = (
        past at _ (place_starts p (suc n) (at + 1) h.1.0 h.1.1),
        place_order p (suc n) (at + 1) h.1.0 f.at h.1.1 h.1.2.1.0,
        omega (arith, h.1.2.1.1, h.1.2.2, l),
      )
      place_order (index at p e) n a b end h l = (
        past at _ (place_starts p (suc n) (at + 1) h.1.0 h.1.1),
        place_order p (suc n) (at + 1) h.1.0 _ h.1.1 (expr_starts e (suc n) h.1.0 h.1.2.0 h.1.2.1),
        expr_order e (suc n) h.1.0 h.1.2.0 end h.1.2.1 (omega (arith, h.1.2.2, l)),
      )

      expr_order : (e : RawExpr Id) (n a b end : ℕ) → ExprLies n e a b → b ≤ end → AscendsExpr (linked_expr m file known e) end
      expr_order (truth at v) n a b end h l = omega (arith, h.1, l)
      expr_order (read p) n a b end h l = place_order p n a b end h l
      expr_order (lit at s z) n a b end h l = omega (arith, h.0.1, l)
      expr_order (un at op x) n a b end h l = (
        past at _ (expr_starts x (suc n) (at + 1) h.1.0 h.1.1),
        expr_order x (suc n) (at + 1) h.1.0 end h.1.1 (omega (arith, h.1.2, l)),
      )
      expr_order (bin at op x y) n a b end h l = (
        past at _ (expr_starts x (suc n) (at + 1) h.1.0 h.1.1),
        expr_order x (suc n) (at + 1) h.1.0 _ h.1.1 (expr_starts y (suc n) h.1.0 h.1.2.0 h.1.2.1),
        expr_order y (suc n) h.1.0 h.1.2.0 end h.1.2.1 (omega (arith, h.1.2.2, l)),
      )
      expr_order (choose at x y z) n a b end h l = (
        past at _ (expr_starts x (suc n) (at + 1) h.1.0 h.1.1),
        expr_order x (suc n) (at + 1) h.1.0 _ h.1.1 (expr_starts y (suc n) h.1.0 h.1.2.0 h.1.2.1),
        expr_order y (suc n) h.1.0 h.1.2.0 _ h.1.2.1 (expr_starts z (suc n) h.1.2.0 h.1.2.2.0 h.1.2.2.1),
        expr_order z (suc n) h.1.2.0 h.1.2.2.0 end h.1.2.2.1 (omega (arith, h.1.2.2.2, l)),
      )
      expr_order (cast at t x) n a b end h l =
          let k = type_stands t (suc n) (at + 1) h.1.0 h.1.1 in
          let s = expr_starts x (suc n) h.1.0 h.1.2.0 h.1.2.1 in
          (past at _ k.0, omega (arith, k.1, s), expr_order x (suc n) h.1.0 h.1.2.0 end h.1.2.1 (omega (arith, h.1.2.2, l)))

module _ (m : Site → Target) (a : Around) where
  stmt_starts : (t : RawStmt Id) (s : Scope) (n from to : ℕ) → StmtLies n t from to → from ≤ stmt_offset (linked_stmt m a s t)
  stmt_starts (bind at x e) s n from to h = h.0
  stmt_starts (local at x t) s n from to h = h.0
  stmt_starts (set at p e) s n from to h = h.0
  stmt_starts (copy at p q) s n from to h = h.0
  stmt_starts (branch at e then_at ss else_at ts) s n from to h = h.0
  stmt_starts (loop at x k body) s n from to h = h.0
  stmt_starts (emit at u e) s n from to h = h.0

  stmts_start : (ts : RawStmts Id) (s : Scope) (n from to end : ℕ) → StmtsLie n ts from to → to ≤ end → from ≤ start_in (linked_all m a s ts) end
  stmts_start no_stmts s n from to end h l = omega (arith, h.0, l)
  stmts_start (stmt t ts) s n from to end h l = stmt_starts t s n from h.0 h.1

  mutual
    stmt_order : (t : RawStmt Id) (s : Scope) (n from to end : ℕ) → StmtLies n t from to → to ≤ end → AscendsStmt (linked_stmt m a s t) end
    stmt_order (bind at x e) s n from to end h l =
        let k = expr_starts m a.file (seen a s) e (suc n) h.1.0 h.1.2.0 h.1.2.1 in
        (omega (arith, h.1.1.0, h.1.1.1, k), expr_order m a.file (seen a s) e (suc n) h.1.0 h.1.2.0 end h.1.2.1 (omega (arith, h.1.2.2, l)))
    stmt_order (local at x t) s n from to end h l =
        let k = type_stands m a.file t (suc n) h.1.0 h.1.2.0 h.1.2.1 in
        omega (arith, h.1.1.0, h.1.1.1, k.0, k.1, h.1.2.2, l)
    stmt_order (set at p e) s n from to end h l = (
      past at _ (place_starts m a.file (seen a s) p (suc n) (at + 1) h.1.0 h.1.1),
      place_order m a.file (seen a s) p (suc n) (at + 1) h.1.0 _ h.1.1 (expr_starts m a.file (seen a s) e (suc n) h.1.0 h.1.2.0 h.1.2.1),
      expr_order m a.file (seen a s) e (suc n) h.1.0 h.1.2.0 end h.1.2.1 (omega (arith, h.1.2.2, l)),
    )
    stmt_order (copy at p q) s n from to end h l = (
      past at _ (place_starts m a.file (seen a s) p (suc n) (at + 1) h.1.0 h.1.1),
      place_order m a.file (seen a s) p (suc n) (at + 1) h.1.0 _ h.1.1 (place_starts m a.file (seen a s) q (suc n) h.1.0 h.1.2.0 h.1.2.1),
      place_order m a.file (seen a s) q (suc n) h.1.0 h.1.2.0 end h.1.2.1 (omega (arith, h.1.2.2, l)),
    )
    stmt_order (branch at e then_at ss else_at ts) s n from to end h l =
        let z = past_binders s (bound_by_all ss) in (
          past at _ (expr_starts m a.file (seen a s) e (suc n) (at + 1) h.1.0 h.1.1),
          expr_order m a.file (seen a s) e (suc n) (at + 1) h.1.0 then_at h.1.1 h.1.2.1.0,
          past then_at _ (stmts_start ss s (suc (suc n)) (then_at + 1) h.1.2.0 else_at h.1.2.1.1 h.1.2.2.1.0),
          stmts_order ss s (suc (suc n)) (then_at + 1) h.1.2.0 else_at h.1.2.1.1 h.1.2.2.1.0,
          past else_at _ (stmts_start ts z (suc (suc n)) (else_at + 1) h.1.2.2.0 end h.1.2.2.1.1 (omega (arith, h.1.2.2.2, l))),
          stmts_order ts z (suc (suc n)) (else_at + 1) h.1.2.2.0 end h.1.2.2.1.1 (omega (arith, h.1.2.2.2, l)),
        )
    stmt_order (loop at x k body) s n from to end h l =
        let b = stmts_start body (with_name s x) (suc n) h.1.2.0 to end h.1.2.2 l in
        (omega (arith, h.1.1.0, h.1.1.1, h.1.2.1.0, b), stmts_order body (with_name s x) (suc n) h.1.2.0 to end h.1.2.2 l)
    stmt_order (emit at u e) s n from to end h l =
        let k = expr_starts m a.file (seen a s) e (suc n) h.1.0 h.1.2.0 h.1.2.1 in
        (omega (arith, h.1.1.0, h.1.1.1, k), expr_order m a.file (seen a s) e (suc n) h.1.0 h.1.2.0 end h.1.2.1 (omega (arith, h.1.2.2, l)))

    stmts_order : (ts : RawStmts Id) (s : Scope) (n from to end : ℕ) → StmtsLie n ts from to → to ≤ end → AscendsAll (linked_all m a s ts) end
    stmts_order no_stmts s n from to end h l = tt
    stmts_order (stmt t ts) s n from to end h l = (
      stmt_order t s n from h.0 _ h.1 (stmts_start ts (after s t) n h.0 to end h.2 l),
      stmts_order ts (after s t) n h.0 to end h.2 l,
    )

-- ---- callbacks

-- one that stands before each end from this one on
abbrev Ends : Id × RawStmts Link → ℕ → Type 0
Ends c to = (end : ℕ) → to ≤ end → (c.0.at < start_in c.1 end) × AscendsAll c.1 end

-- they stand in order, from `a` on and before `b`
abbrev Callbacks : List (Id × RawStmts Link) → ℕ → ℕ → Type 0
Callbacks [] a b = a ≤ b
Callbacks (c ∷ cs) a b = (to : ℕ) × (a ≤ c.0.at) × Ends c to × Callbacks cs to b

callbacks_from : (cs : List (Id × RawStmts Link)) (a c b : ℕ) → a ≤ c → Callbacks cs c b → Callbacks cs a b
callbacks_from [] a c b h t = omega (arith, h, t)
callbacks_from (x ∷ cs) a c b h t = (t.0, omega (arith, h, t.1), t.2, t.3)

callbacks_to : (cs : List (Id × RawStmts Link)) (a c b : ℕ) → c ≤ b → Callbacks cs a c → Callbacks cs a b
callbacks_to [] a c b h t = omega (arith, h, t)
callbacks_to (x ∷ cs) a c b h t = (t.0, t.1, t.2, callbacks_to cs t.0 c b h t.3)

callbacks_both : (cs ds : List (Id × RawStmts Link)) (a c b : ℕ) → Callbacks cs a c → Callbacks ds c b → Callbacks (cs ++ ds) a b
callbacks_both [] ds a c b s t = callbacks_from ds a c b s t
callbacks_both (x ∷ cs) ds a c b s t = (s.0, s.1, s.2, callbacks_both cs ds s.0 c b s.3 t)

starts : (cs : List (Id × RawStmts Link)) (a b end : ℕ) → Callbacks cs a b → b ≤ end → a ≤ start_of cs end
starts [] a b end t l = omega (arith, t, l)
starts (c ∷ cs) a b end t l = t.1

ascend : (cs : List (Id × RawStmts Link)) (a b end : ℕ) → Callbacks cs a b → b ≤ end → AscendCallbacks cs end
ascend [] a b end t l = tt
ascend (c ∷ cs) a b end t l =
    let k = t.2 (start_of cs end) (starts cs t.0 b end t.3 l) in
    (k.0, k.1, ascend cs t.0 b end t.3 l)

each-append : {X Y : Type 0} (of : X → List Y) (xs ys : List X) → each of (xs ++ ys) ≡ each of xs ++ each of ys
each-append of [] ys = refl
each-append of (x ∷ xs) ys = ap (λ r. of x ++ r) (each-append of xs ys) ∙ sym (append_assoc (of x) (each of xs) (each of ys))

abbrev in_handlers : List Written → List (Id × RawStmts Link)
in_handlers hs = each (λ h. each callback_of h.parts) hs

module _ (m : Site → Target) where
  hparts_order : (a : Around) (n : ℕ) (hs : List (RawHpart Id)) (from to : ℕ) → AllLie (HpartLies n) hs from to → Callbacks (each callback_of (map (linked_hpart m a) hs)) from to
  hparts_order a n [] from to h = h
  hparts_order a n (emitter at x u k ∷ hs) from to h = callbacks_from (each callback_of (map (linked_hpart m a) hs)) from h.0 to (omega (arith, h.1)) (hparts_order a n hs h.0 to h.3)
  hparts_order a n (callback at x ss ∷ hs) from to h = (
    h.0,
    omega (arith, h.2.0, h.2.1.1.0),
    λ end l. (
      (let k = stmts_start m a ss (entry x) (suc n) h.2.1.0 h.0 end h.2.1.2 l in omega (arith, h.2.1.1.1, k)),
      stmts_order m a ss (entry x) (suc n) h.2.1.0 h.0 end h.2.1.2 l,
    ),
    hparts_order a n hs h.0 to h.3,
  )

  parts_order : (file : Find Thing) (states : Find Target) (k n : ℕ) (ps : List (RawPart Id)) (from to : ℕ) → AllLie (PartLies n) ps from to → Callbacks (in_handlers (each (written_of k) (map (linked_part m file states) ps))) from to
  parts_order file states k n [] from to h = h
  parts_order file states k n (state at x t ∷ ps) from to h = callbacks_from (in_handlers (each (written_of k) (map (linked_part m file states) ps))) from h.0 to (omega (arith, h.1)) (parts_order file states k n ps h.0 to h.3)
  parts_order file states k n (handler at x u hs ∷ ps) from to h =
      let own = each callback_of (map (linked_hpart m (around file states hs)) hs) in
      callbacks_both own (in_handlers (each (written_of k) (map (linked_part m file states) ps))) from h.0 to
      (callbacks_from own from h.2.1.2.0 h.0 (omega (arith, h.2.0, h.2.1.1.0, h.2.1.1.1, h.2.1.2.1.0, h.2.1.2.1.1)) (hparts_order (around file states hs) (suc n) hs h.2.1.2.0 h.0 h.2.1.2.2))
      (parts_order file states k n ps h.0 to h.3)

  items_order : (file : Find Thing) (deep : Bool) (k n : ℕ) (items : List (RawItem Id)) (from to : ℕ) → AllLie (ItemLies deep n) items from to → Callbacks (in_handlers (handlers_from k (map (linked_item m file) items))) from to
  items_order file deep k n [] from to h = h
  items_order file deep k n (monitor at x ps ∷ items) from to h =
      let own = each (written_of k) (map (linked_part m file (find (states_of ps))) ps) in
      let more = handlers_from (k + 1) (map (linked_item m file) items) in
      subst (λ cs. Callbacks cs from to) (sym (each-append (λ h. each callback_of h.parts) own more))
      (callbacks_both (in_handlers own) (in_handlers more) from h.0 to
      (callbacks_from (in_handlers own) from h.2.1.0 h.0 (omega (arith, h.2.0, h.2.1.1.0, h.2.1.1.1)) (parts_order file (find (states_of ps)) k (suc n) ps h.2.1.0 h.0 h.2.1.2))
      (items_order file deep (k + 1) n items h.0 to h.3))
  items_order file deep k n (fields at x fs ∷ items) from to h = callbacks_from (in_handlers (handlers_from k (map (linked_item m file) items))) from h.0 to (omega (arith, h.1)) (items_order file deep k n items h.0 to h.3)
  items_order file deep k n (init at x p ∷ items) from to h = callbacks_from (in_handlers (handlers_from k (map (linked_item m file) items))) from h.0 to (omega (arith, h.1)) (items_order file deep k n items h.0 to h.3)
  items_order file deep k n (period at x ms p d ∷ items) from to h = callbacks_from (in_handlers (handlers_from k (map (linked_item m file) items))) from h.0 to (omega (arith, h.1)) (items_order file deep k n items h.0 to h.3)
  items_order file deep k n (signal at x t p d ∷ items) from to h = callbacks_from (in_handlers (handlers_from k (map (linked_item m file) items))) from h.0 to (omega (arith, h.1)) (items_order file deep k n items h.0 to h.3)
  items_order file deep k n (channel at x t ∷ items) from to h = callbacks_from (in_handlers (handlers_from k (map (linked_item m file) items))) from h.0 to (omega (arith, h.1)) (items_order file deep k n items h.0 to h.3)
  items_order file deep k n (output at x u ∷ items) from to h = callbacks_from (in_handlers (handlers_from k (map (linked_item m file) items))) from h.0 to (omega (arith, h.1)) (items_order file deep k n items h.0 to h.3)

  file_order : (raw : Raw Id) (b : ℕ) → TowerLies 0 raw 0 b → AscendsFile (linked m raw) b
  file_order raw b h = ascend _ h.3.0 b b (items_order (find (declared_in raw.items)) _ 0 1 raw.items h.3.0 b h.3.2) (omega arith)

pub linked_ascends : (bs : List ℕ) (raw : Raw Id) (t : Raw Link) → Spells bs raw → IsLinked raw t → AscendsFile t (length bs)
linked_ascends bs raw t s l = subst (λ t. AscendsFile t (length bs)) (sym l.2) (file_order l.0 raw (length bs) (file_lies bs raw s))
