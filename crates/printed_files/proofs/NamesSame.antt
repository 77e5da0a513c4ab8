-- Whether uses are right, and what they refer to, are the same, whatever the offsets.
use Rattle.std.proofs.Common.{◌≡◌, ℕ, List, [], ◌∷◌, ◌++◌, map, Bool, true, false, ◌&&◌, Option, Some, None, is_some, is_none, refl, sym, ap, ap₂, subst, ◌∙◌}
use Rattle.std.specs.Option.{unwrap_or}
use Rattle.std.specs.List.{list_all}
use Rattle.tower_syntax.specs.RawTree.{Id, RawType, word, rec, array, RawPlace, root, get, index, RawExpr, truth, read, lit, un, bin, choose, cast, RawStmt, bind, local, set, copy, branch, loop, emit, RawStmts, no_stmts, stmt, RawHpart, emitter, callback, RawPart, state, handler, RawItem, fields, init, period, signal, channel, output, monitor, Raw}
use Rattle.tower_syntax.specs.declared.named.Target.{Target}
use Rattle.tower_syntax.specs.declared.named.Target.TheVariants as target
use Rattle.tower_reader.specs.Alike as bare
use Rattle.tower_reader.specs.Alike.{IsAlike}
use Rattle.arch_names.specs.declared.names.Declared.{Declared}
use Rattle.arch_names.specs.declared.names.Thing.{Thing}
use Rattle.arch_names.specs.declared.names.Scope.{Scope}
use Rattle.arch_names.specs.declared.fault.Sort.TheVariants as sort
use Rattle.arch_names.specs.Names.{Find, find}
use Rattle.arch_names.specs.Sets.{fields_of, emitters_of, states_of, declared_in}
use Rattle.arch_names.specs.Site.{Site}
use Rattle.arch_names.specs.Sites.{Around, around, entry, seen, past, with_name, after, bound_by_all, in_scope, no_names, new_name, place_of, type_sites, place_sites, expr_sites, stmt_sites, all_sites}
use Rattle.arch_names.specs.Linked.{linked_type, linked_place, linked_expr, linked_stmt, linked_all, linked_hpart, linked_part, linked_field, linked_item, linked}
use Rattle.printed_files.specs.Bare as links
use Rattle.printed_files.specs.Fit.{what_of, serving, plainly, is_right, are_right, hpart_fits, part_fits, is_earlier, type_is_earlier, field_fits, item_fits, records_after, items_fit, names_fit, Each, HasEmittersOnce, HasSetsOnce, HasFitNames, FitHasNoOffsets, LinksHaveNoOffsets}
use Rattle.printed_files.proofs.Alike.{FindSame, alike_find, alike_sym, alike_once, alike_fields, alike_emitters, alike_states, alike_file, AlikeScopes, AlikeAround, seen_same, none_alike, entry_alike, past_alike, named_alike, all_bound_same, after_alike, around_alike}

-- ---- what is right

pub record AsRight (ss ts : List Site) : Type 0 where
  pub is : are_right ss ≡ are_right ts

right-append : (ss ts : List Site) → are_right (ss ++ ts) ≡ (are_right ss && are_right ts)
right-append [] ts = refl
right-append (s ∷ ss) ts = ap (λ b. is_right s && b) (right-append ss ts) ∙ grouped (is_right s) (are_right ss) (are_right ts)
  where
    grouped : (a b c : Bool) → (a && (b && c)) ≡ ((a && b) && c)
    grouped true b c = refl
    grouped false b c = refl

no_sites : AsRight [] []
no_sites = record { is = refl }

one_site : (s t : Site) (ss ts : List Site) → is_right s ≡ is_right t → AsRight ss ts → AsRight (s ∷ ss) (t ∷ ts)
one_site s t ss ts h k = record { is = ap₂ (λ a b. a && b) h k.is }

both_sites : (ss ts us vs : List Site) → AsRight ss us → AsRight ts vs → AsRight (ss ++ ts) (us ++ vs)
both_sites ss ts us vs h k = record { is = right-append ss ts ∙ ap₂ (λ a b. a && b) h.is k.is ∙ sym (right-append us vs) }

module _ (f g : Find Thing) (file : FindSame f g) where
  type_right : (t : RawType Id) → AsRight (type_sites f None t) (type_sites g None (bare.bare_type t))
  type_right (word at s) = no_sites
  type_right (rec u) = one_site _ _ [] [] (ap (λ o. is_some (serving sort.Record o)) (file.at u.name)) no_sites
  type_right (array at n t) = type_right t

  earlier_same : (n : ℕ) (t : RawType Id) → type_is_earlier f n t ≡ type_is_earlier g n (bare.bare_type t)
  earlier_same n (word at s) = refl
  earlier_same n (rec u) = ap (is_earlier n) (file.at u.name)
  earlier_same n (array at k t) = earlier_same n t

  mutual
    place_right : (k l : Find Target) → FindSame k l → (p : RawPlace Id) → AsRight (place_sites f k p) (place_sites g l (bare.bare_place p))
    place_right k l h (root u) = one_site _ _ [] [] (ap (λ o. is_some o) (h.at u.name)) no_sites
    place_right k l h (get at p x) = place_right k l h p
    place_right k l h (index at p e) = both_sites _ _ _ _ (place_right k l h p) (expr_right k l h e)

    expr_right : (k l : Find Target) → FindSame k l → (e : RawExpr Id) → AsRight (expr_sites f k e) (expr_sites g l (bare.bare_expr e))
    expr_right k l h (truth at b) = no_sites
    expr_right k l h (read p) = place_right k l h p
    expr_right k l h (lit at t n) = no_sites
    expr_right k l h (un at op x) = expr_right k l h x
    expr_right k l h (bin at op x y) = both_sites _ _ _ _ (expr_right k l h x) (expr_right k l h y)
    expr_right k l h (choose at c x y) = both_sites _ _ _ _ (both_sites _ _ _ _ (expr_right k l h c) (expr_right k l h x)) (expr_right k l h y)
    expr_right k l h (cast at t x) = both_sites _ _ _ _ (type_right t) (expr_right k l h x)

none_what : {T : Type 0} (o p : Option (Declared T)) → what_of o ≡ what_of p → is_none (place_of o) ≡ is_none (place_of p)
none_what None None h = refl
none_what None (Some e) h = absurd (cc)
none_what (Some d) None h = absurd (cc)
none_what (Some d) (Some e) h = refl

new_right : (k l : Find Target) (x : Id) → FindSame k l → is_right (new_name k x) ≡ is_right (new_name l (bare.bare_id x))
new_right k l x h = none_what (k x.name) (l x.name) (h.at x.name)

module _ (a b : Around) (around_same : AlikeAround a b) where
  sees : (s z : Scope) → AlikeScopes s z → FindSame (seen a s) (seen b z)
  sees s z h = seen_same a.states b.states s z around_same.states h

  mutual
    stmt_right : (s z : Scope) → AlikeScopes s z → (t : RawStmt Id) → AsRight (stmt_sites a s t) (stmt_sites b z (bare.bare_stmt t))
    stmt_right s z h (bind at x e) = one_site _ _ _ _ (new_right (seen a s) (seen b z) x (sees s z h)) (expr_right a.file b.file around_same.file (seen a s) (seen b z) (sees s z h) e)
    stmt_right s z h (local at x t) = one_site _ _ _ _ (new_right (seen a s) (seen b z) x (sees s z h)) (type_right a.file b.file around_same.file t)
    stmt_right s z h (set at p e) = both_sites _ _ _ _ (place_right a.file b.file around_same.file (seen a s) (seen b z) (sees s z h) p) (expr_right a.file b.file around_same.file (seen a s) (seen b z) (sees s z h) e)
    stmt_right s z h (copy at p q) = both_sites _ _ _ _ (place_right a.file b.file around_same.file (seen a s) (seen b z) (sees s z h) p) (place_right a.file b.file around_same.file (seen a s) (seen b z) (sees s z h) q)
    stmt_right s z h (branch at e then_at ss else_at ts) =
        both_sites _ _ _ _ (both_sites _ _ _ _ (expr_right a.file b.file around_same.file (seen a s) (seen b z) (sees s z h) e) (all_right s z h ss))
        (all_right (past s (bound_by_all ss)) (past z (bound_by_all (bare.bare_stmts ss))) (past_alike s z _ _ (all_bound_same ss) h) ts)
    stmt_right s z h (loop at x n body) = one_site _ _ _ _ (new_right (seen a s) (seen b z) x (sees s z h)) (all_right (with_name s x) (with_name z (bare.bare_id x)) (named_alike s z x h) body)
    stmt_right s z h (emit at u e) = one_site _ _ _ _ (ap (λ o. is_some o) (around_same.emitters.at u.name)) (expr_right a.file b.file around_same.file (seen a s) (seen b z) (sees s z h) e)

    all_right : (s z : Scope) → AlikeScopes s z → (ts : RawStmts Id) → AsRight (all_sites a s ts) (all_sites b z (bare.bare_stmts ts))
    all_right s z h no_stmts = no_sites
    all_right s z h (stmt t ts) = both_sites _ _ _ _ (stmt_right s z h t) (all_right (after s t) (after z (bare.bare_stmt t)) (after_alike s z t h) ts)

  hpart_fit : (p : RawHpart Id) → hpart_fits a p ≡ hpart_fits b (bare.bare_hpart p)
  hpart_fit (emitter at x u bound) = ap (λ o. is_some (serving sort.Channel o)) (around_same.file.at u.name)
  hpart_fit (callback at x ss) =
      (one_site (new_name (in_scope a.states no_names) x) (new_name (in_scope b.states no_names) (bare.bare_id x)) (all_sites a (entry x) ss) (all_sites b (entry (bare.bare_id x)) (bare.bare_stmts ss)) (new_right (in_scope a.states no_names) (in_scope b.states no_names) x (seen_same a.states b.states no_names no_names around_same.states none_alike))
      (all_right (entry x) (entry (bare.bare_id x)) (entry_alike x) ss)).is

all_same : {X : Type 0} (b : X → X) (p q : X → Bool) → ((x : X) → p x ≡ q (b x)) → (xs : List X) → list_all p xs ≡ list_all q (map b xs)
all_same b p q h [] = refl
all_same b p q h (x ∷ xs) = ap₂ (λ u v. u && v) (h x) (all_same b p q h xs)

module _ (f g : Find Thing) (file : FindSame f g) where
  part_fit : (k l : Find Target) → FindSame k l → (p : RawPart Id) → part_fits f k p ≡ part_fits g l (bare.bare_part p)
  part_fit k l h (state at x t) = (type_right f g file t).is
  part_fit k l h (handler at x u hs) = ap₂ (λ a b. a && b) (ap (λ o. is_some (serving sort.SourceOrChannel o)) (file.at u.name))
      (all_same bare.bare_hpart (hpart_fits (around f k hs)) (hpart_fits (around g l (map bare.bare_hpart hs))) (hpart_fit (around f k hs) (around g l (map bare.bare_hpart hs)) (around_alike f g k l hs file h)) hs)

  states_same : (ps : List (RawPart Id)) → FindSame (find (states_of ps)) (find (states_of (map bare.bare_part ps)))
  states_same ps = alike_find (states_of ps) (states_of (map bare.bare_part ps)) (alike_states ps)

  item_fit : (n : ℕ) (x : RawItem Id) → item_fits f n x ≡ item_fits g n (bare.bare_item x)
  item_fit n (fields at x fs) = all_same bare.bare_field (field_fits f n) (field_fits g n) (λ y. earlier_same f g file n y.ty) fs
  item_fit n (init at x p) = refl
  item_fit n (period at x ms p d) = refl
  item_fit n (signal at x t p d) = (type_right f g file t).is
  item_fit n (channel at x t) = (type_right f g file t).is
  item_fit n (output at x u) = ap (λ o. is_some (serving sort.Channel o)) (file.at u.name)
  item_fit n (monitor at x ps) = all_same bare.bare_part (part_fits f (find (states_of ps))) (part_fits g (find (states_of (map bare.bare_part ps)))) (part_fit (find (states_of ps)) (find (states_of (map bare.bare_part ps))) (states_same ps)) ps

  after_same : (n : ℕ) (x : RawItem Id) → records_after n x ≡ records_after n (bare.bare_item x)
  after_same n (fields at x fs) = refl
  after_same n (init at x p) = refl
  after_same n (period at x ms p d) = refl
  after_same n (signal at x t p d) = refl
  after_same n (channel at x t) = refl
  after_same n (output at x u) = refl
  after_same n (monitor at x ps) = refl

  items_fit_same : (n : ℕ) (xs : List (RawItem Id)) → items_fit f n xs ≡ items_fit g n (map bare.bare_item xs)
  items_fit_same n [] = refl
  items_fit_same n (x ∷ xs) = ap₂ (λ u v. u && v) (item_fit n x) (items_fit_same (records_after n x) xs ∙ ap (λ m. items_fit g m (map bare.bare_item xs)) (after_same n x))

  -- ---- what is referred to

  linked_type_same : (t : RawType Id) → links.bare_type (linked_type plainly f None t) ≡ linked_type plainly g None (bare.bare_type t)
  linked_type_same (word at s) = refl
  linked_type_same (rec u) = ap (λ o. rec (record { at = 0; target = unwrap_or (serving sort.Record o) target.Param })) (file.at u.name)
  linked_type_same (array at n t) = ap (array 0 n) (linked_type_same t)

  linked_part_type_same : (m n : ℕ) (t : RawType Id) → links.bare_type (linked_type plainly f (Some m) t) ≡ linked_type plainly g (Some n) (bare.bare_type t)
  linked_part_type_same m n (word at s) = refl
  linked_part_type_same m n (rec u) = ap (λ o. rec (record { at = 0; target = unwrap_or (serving sort.Record o) target.Param })) (file.at u.name)
  linked_part_type_same m n (array at k t) = ap (array 0 k) (linked_part_type_same m n t)

  mutual
    linked_place_same : (k l : Find Target) → FindSame k l → (p : RawPlace Id) → links.bare_place (linked_place plainly f k p) ≡ linked_place plainly g l (bare.bare_place p)
    linked_place_same k l h (root u) = ap (λ o. root (record { at = 0; target = unwrap_or o target.Param })) (h.at u.name)
    linked_place_same k l h (get at p x) = ap (λ q. get 0 q (bare.bare_id x)) (linked_place_same k l h p)
    linked_place_same k l h (index at p e) = ap₂ (index 0) (linked_place_same k l h p) (linked_expr_same k l h e)

    linked_expr_same : (k l : Find Target) → FindSame k l → (e : RawExpr Id) → links.bare_expr (linked_expr plainly f k e) ≡ linked_expr plainly g l (bare.bare_expr e)
    linked_expr_same k l h (truth at b) = refl
    linked_expr_same k l h (read p) = ap read (linked_place_same k l h p)
    linked_expr_same k l h (lit at t n) = refl
    linked_expr_same k l h (un at op x) = ap (un 0 op) (linked_expr_same k l h x)
    linked_expr_same k l h (bin at op x y) = ap₂ (bin 0 op) (linked_expr_same k l h x) (linked_expr_same k l h y)
    linked_expr_same k l h (choose at c x y) = λ i. choose 0 (linked_expr_same k l h c i) (linked_expr_same k l h x i) (linked_expr_same k l h y i)
    linked_expr_same k l h (cast at t x) = ap₂ (cast 0) (linked_type_same t) (linked_expr_same k l h x)

module _ (a b : Around) (around_same : AlikeAround a b) where
  mutual
    linked_stmt_same : (s z : Scope) → AlikeScopes s z → (t : RawStmt Id) → links.bare_stmt (linked_stmt plainly a s t) ≡ linked_stmt plainly b z (bare.bare_stmt t)
    linked_stmt_same s z h (bind at x e) = ap (bind 0 (bare.bare_id x)) (linked_expr_same a.file b.file around_same.file (seen a s) (seen b z) (sees a b around_same s z h) e)
    linked_stmt_same s z h (local at x t) = ap (local 0 (bare.bare_id x)) (linked_type_same a.file b.file around_same.file t)
    linked_stmt_same s z h (set at p e) = ap₂ (set 0) (linked_place_same a.file b.file around_same.file (seen a s) (seen b z) (sees a b around_same s z h) p) (linked_expr_same a.file b.file around_same.file (seen a s) (seen b z) (sees a b around_same s z h) e)
    linked_stmt_same s z h (copy at p q) = ap₂ (copy 0) (linked_place_same a.file b.file around_same.file (seen a s) (seen b z) (sees a b around_same s z h) p) (linked_place_same a.file b.file around_same.file (seen a s) (seen b z) (sees a b around_same s z h) q)
    linked_stmt_same s z h (branch at e then_at ss else_at ts) = λ i. branch 0 (linked_expr_same a.file b.file around_same.file (seen a s) (seen b z) (sees a b around_same s z h) e i)
        0 (linked_all_same s z h ss i)
        0 (linked_all_same (past s (bound_by_all ss)) (past z (bound_by_all (bare.bare_stmts ss))) (past_alike s z _ _ (all_bound_same ss) h) ts i)
    linked_stmt_same s z h (loop at x n body) = ap (loop 0 (bare.bare_id x) n) (linked_all_same (with_name s x) (with_name z (bare.bare_id x)) (named_alike s z x h) body)
    linked_stmt_same s z h (emit at u e) = ap₂ (λ o y. emit 0 (record { at = 0; target = unwrap_or o target.Param }) y) (around_same.emitters.at u.name) (linked_expr_same a.file b.file around_same.file (seen a s) (seen b z) (sees a b around_same s z h) e)

    linked_all_same : (s z : Scope) → AlikeScopes s z → (ts : RawStmts Id) → links.bare_stmts (linked_all plainly a s ts) ≡ linked_all plainly b z (bare.bare_stmts ts)
    linked_all_same s z h no_stmts = refl
    linked_all_same s z h (stmt t ts) = ap₂ stmt (linked_stmt_same s z h t) (linked_all_same (after s t) (after z (bare.bare_stmt t)) (after_alike s z t h) ts)

  linked_hpart_same : (p : RawHpart Id) → links.bare_hpart (linked_hpart plainly a p) ≡ linked_hpart plainly b (bare.bare_hpart p)
  linked_hpart_same (emitter at x u bound) = ap (λ o. emitter 0 (bare.bare_id x) (record { at = 0; target = unwrap_or (serving sort.Channel o) target.Param }) bound) (around_same.file.at u.name)
  linked_hpart_same (callback at x ss) = ap (callback 0 (bare.bare_id x)) (linked_all_same (entry x) (entry (bare.bare_id x)) (entry_alike x) ss)

maps_same : {X Y : Type 0} (b : X → X) (c : Y → Y) (f g : X → Y) → ((x : X) → c (f x) ≡ g (b x)) → (xs : List X) → map c (map f xs) ≡ map g (map b xs)
maps_same b c f g h [] = refl
maps_same b c f g h (x ∷ xs) = ap₂ (λ u us. u ∷ us) (h x) (maps_same b c f g h xs)

module _ (f g : Find Thing) (file : FindSame f g) where
  linked_part_same : (k l : Find Target) → FindSame k l → (p : RawPart Id) → links.bare_part (linked_part plainly f k p) ≡ linked_part plainly g l (bare.bare_part p)
  linked_part_same k l h (state at x t) = ap (state 0 (bare.bare_id x)) (linked_type_same f g file t)
  linked_part_same k l h (handler at x u hs) = ap₂ (λ o ps. handler 0 (bare.bare_id x) (record { at = 0; target = unwrap_or (serving sort.SourceOrChannel o) target.Param }) ps) (file.at u.name)
      (maps_same bare.bare_hpart links.bare_hpart (linked_hpart plainly (around f k hs)) (linked_hpart plainly (around g l (map bare.bare_hpart hs))) (linked_hpart_same (around f k hs) (around g l (map bare.bare_hpart hs)) (around_alike f g k l hs file h)) hs)

  linked_item_same : (x : RawItem Id) → links.bare_item (linked_item plainly f x) ≡ linked_item plainly g (bare.bare_item x)
  linked_item_same (fields at x fs) = ap (fields 0 (bare.bare_id x)) (maps_same bare.bare_field links.bare_field (linked_field plainly f x.at) (linked_field plainly g 0) (λ y. ap (λ t. record { at = 0; name = bare.bare_id y.name; ty = t }) (linked_part_type_same f g file x.at 0 y.ty)) fs)
  linked_item_same (init at x p) = refl
  linked_item_same (period at x ms p d) = refl
  linked_item_same (signal at x t p d) = ap (λ y. signal 0 (bare.bare_id x) y p d) (linked_type_same f g file t)
  linked_item_same (channel at x t) = ap (channel 0 (bare.bare_id x)) (linked_type_same f g file t)
  linked_item_same (output at x u) = ap (λ o. output 0 (bare.bare_id x) (record { at = 0; target = unwrap_or (serving sort.Channel o) target.Param })) (file.at u.name)
  linked_item_same (monitor at x ps) = ap (monitor 0 (bare.bare_id x)) (maps_same bare.bare_part links.bare_part (linked_part plainly f (find (states_of ps))) (linked_part plainly g (find (states_of (map bare.bare_part ps)))) (linked_part_same (find (states_of ps)) (find (states_of (map bare.bare_part ps))) (states_same f g file ps)) ps)

module _ (r : Raw Id) where
  abbrev file_of : Find Thing
  file_of = find (declared_in r.items)

  abbrev bare_file : Find Thing
  bare_file = find (declared_in (map bare.bare_item r.items))

  files_same : FindSame file_of bare_file
  files_same = alike_find (declared_in r.items) (declared_in (map bare.bare_item r.items)) (alike_file r.items)

  pub fit_same : names_fit r ≡ names_fit (bare.bare r)
  fit_same = items_fit_same file_of bare_file files_same 0 r.items

  pub linked_same : links.bare_raw (linked plainly r) ≡ linked plainly (bare.bare r)
  linked_same = ap (λ xs. record { at = 0; version = r.version; name = bare.bare_id r.name; items = xs })
      (maps_same bare.bare_item links.bare_item (linked_item plainly file_of) (linked_item plainly bare_file) (linked_item_same file_of bare_file files_same) r.items)

pub links_have_no_offsets : LinksHaveNoOffsets
links_have_no_offsets r s e = linked_same r ∙ ap (linked plainly) e ∙ sym (linked_same s)

-- ---- sets

emitters_down : (p : RawPart Id) → HasEmittersOnce p → HasEmittersOnce (bare.bare_part p)
emitters_down (state at x t) h = h
emitters_down (handler at x u hs) h = alike_once (emitters_of hs) (emitters_of (map bare.bare_hpart hs)) (alike_emitters hs) h

emitters_up : (p : RawPart Id) → HasEmittersOnce (bare.bare_part p) → HasEmittersOnce p
emitters_up (state at x t) h = h
emitters_up (handler at x u hs) h = alike_once (emitters_of (map bare.bare_hpart hs)) (emitters_of hs) (alike_sym _ _ (alike_emitters hs)) h

each_down : {X : Type 0} (b : X → X) (P : X → Type 0) → ((x : X) → P x → P (b x)) → (xs : List X) → Each P xs → Each P (map b xs)
each_down b P h [] k = k
each_down b P h (x ∷ xs) k = (h x k.0, each_down b P h xs k.1)

each_up : {X : Type 0} (b : X → X) (P : X → Type 0) → ((x : X) → P (b x) → P x) → (xs : List X) → Each P (map b xs) → Each P xs
each_up b P h [] k = k
each_up b P h (x ∷ xs) k = (h x k.0, each_up b P h xs k.1)

sets_down : (x : RawItem Id) → HasSetsOnce x → HasSetsOnce (bare.bare_item x)
sets_down (fields at x fs) h = alike_once (fields_of fs) (fields_of (map bare.bare_field fs)) (alike_fields fs) h
sets_down (init at x p) h = h
sets_down (period at x ms p d) h = h
sets_down (signal at x t p d) h = h
sets_down (channel at x t) h = h
sets_down (output at x u) h = h
sets_down (monitor at x ps) h = (alike_once (states_of ps) (states_of (map bare.bare_part ps)) (alike_states ps) h.0, each_down bare.bare_part HasEmittersOnce emitters_down ps h.1)

sets_up : (x : RawItem Id) → HasSetsOnce (bare.bare_item x) → HasSetsOnce x
sets_up (fields at x fs) h = alike_once (fields_of (map bare.bare_field fs)) (fields_of fs) (alike_sym _ _ (alike_fields fs)) h
sets_up (init at x p) h = h
sets_up (period at x ms p d) h = h
sets_up (signal at x t p d) h = h
sets_up (channel at x t) h = h
sets_up (output at x u) h = h
sets_up (monitor at x ps) h = (alike_once (states_of (map bare.bare_part ps)) (states_of ps) (alike_sym _ _ (alike_states ps)) h.0, each_up bare.bare_part HasEmittersOnce emitters_up ps h.1)

pub fit_down : (r : Raw Id) → HasFitNames r → HasFitNames (bare.bare r)
fit_down r h = record {
  file = alike_once (declared_in r.items) (declared_in (map bare.bare_item r.items)) (alike_file r.items) h.file;
  inside = each_down bare.bare_item HasSetsOnce sets_down r.items h.inside;
  fits = sym (fit_same r) ∙ h.fits;
}

pub fit_up : (r : Raw Id) → HasFitNames (bare.bare r) → HasFitNames r
fit_up r h = record {
  file = alike_once (declared_in (map bare.bare_item r.items)) (declared_in r.items) (alike_sym _ _ (alike_file r.items)) h.file;
  inside = each_up bare.bare_item HasSetsOnce sets_up r.items h.inside;
  fits = fit_same r ∙ h.fits;
}

pub fit_has_no_offsets : FitHasNoOffsets
fit_has_no_offsets r s e h = fit_up s (subst HasFitNames e (fit_down r h))
