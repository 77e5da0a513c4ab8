-- Sets of names that are alike: the same names for the same things, at whatever offsets.
use Rattle.std.proofs.Common.{◌≡◌, ℕ, ◌+◌, List, [], ◌∷◌, ◌++◌, map, Bool, true, false, cond, Option, Some, None, refl, sym, ap, ap₂, ◌∙◌}
use Rattle.std.specs.Option.{option_or}
use Rattle.tower_types.specs.Ty.{Name}
use Rattle.tower_syntax.specs.declared.named.Target.{Target}
use Rattle.tower_syntax.specs.declared.named.Target.TheVariants as target
use Rattle.tower_syntax.specs.RawTree.{Id, RawStmt, bind, local, set, copy, branch, loop, emit, RawStmts, no_stmts, stmt, RawField, RawHpart, emitter, callback, RawPart, state, handler, RawItem, fields, init, period, signal, channel, output, monitor}
use Rattle.tower_reader.specs.Alike as bare
use Rattle.arch_names.specs.declared.names.Declared.{Declared}
use Rattle.arch_names.specs.declared.names.Thing.{Thing}
use Rattle.arch_names.specs.declared.names.Counts.{Counts}
use Rattle.arch_names.specs.declared.names.Scope.{Scope}
use Rattle.arch_names.specs.Names.{Names, Find, same, find}
use Rattle.arch_names.specs.Sets.{declared_as, each, counting, fields_of, emitter_of, next_emitter, emitters_of, state_of, next_state, states_of, handler_of, declared_by, counted, declared_in}
use Rattle.arch_names.specs.Trees.{AreOnce}
use Rattle.arch_names.specs.Sites.{Around, in_scope, past, with_name, after, entry, bound_by, bound_by_all, around, no_names}
use Rattle.printed_files.specs.Fit.{what_of}

-- they find the same
pub record FindSame {T : Type 0} (f g : Find T) : Type 0 where
  pub at : (n : Name) → what_of (f n) ≡ what_of (g n)

abbrev pub AreAlike : {T : Type 0} → Names T → Names T → Type 0
AreAlike [] [] = Unit {0}
AreAlike [] (e ∷ es) = ⊥
AreAlike (d ∷ ds) [] = ⊥
AreAlike (d ∷ ds) (e ∷ es) = (d.0 ≡ e.0) × (d.1.what ≡ e.1.what) × AreAlike ds es

found_either : {T : Type 0} (b : Bool) (d e : Declared T) (x y : Option (Declared T)) → d.what ≡ e.what → what_of x ≡ what_of y → what_of (cond b (Some d) x) ≡ what_of (cond b (Some e) y)
found_either true d e x y h k = ap Some h
found_either false d e x y h k = k

alike_at : {T : Type 0} (ds es : Names T) → AreAlike ds es → (n : Name) → what_of (find ds n) ≡ what_of (find es n)
alike_at [] [] h n = refl
alike_at [] (e ∷ es) h n = absurd h
alike_at (d ∷ ds) [] h n = absurd h
alike_at (d ∷ ds) (e ∷ es) h n =
    ap (λ k. what_of (cond (same n k) (Some d.1) (find ds n))) h.0 ∙ found_either (same n e.0) d.1 e.1 (find ds n) (find es n) h.1 (alike_at ds es h.2 n)

pub alike_find : {T : Type 0} (ds es : Names T) → AreAlike ds es → FindSame (find ds) (find es)
alike_find ds es h = record { at = alike_at ds es h }

pub alike_append : {T : Type 0} (ds es fs gs : Names T) → AreAlike ds es → AreAlike fs gs → AreAlike (ds ++ fs) (es ++ gs)
alike_append [] [] fs gs h k = k
alike_append [] (e ∷ es) fs gs h k = absurd h
alike_append (d ∷ ds) [] fs gs h k = absurd h
alike_append (d ∷ ds) (e ∷ es) fs gs h k = (h.0, h.1, alike_append ds es fs gs h.2 k)

pub alike_sym : {T : Type 0} (ds es : Names T) → AreAlike ds es → AreAlike es ds
alike_sym [] [] h = tt
alike_sym [] (e ∷ es) h = absurd h
alike_sym (d ∷ ds) [] h = absurd h
alike_sym (d ∷ ds) (e ∷ es) h = (sym h.0, sym h.1, alike_sym ds es h.2)

no_what : {T : Type 0} (o : Option (Declared T)) → what_of o ≡ None → o ≡ None
no_what None h = refl
no_what (Some d) h = absurd (cc)

pub alike_once : {T : Type 0} (ds es : Names T) → AreAlike ds es → AreOnce ds → AreOnce es
alike_once [] [] h o = o
alike_once [] (e ∷ es) h o = absurd h
alike_once (d ∷ ds) [] h o = absurd h
alike_once (d ∷ ds) (e ∷ es) h o = (
  no_what (find es e.0) (sym (alike_at ds es h.2 e.0) ∙ ap (λ n. what_of (find ds n)) (sym h.0) ∙ ap what_of o.0),
  alike_once ds es h.2 o.1,
)

-- ---- the sets of a file

pub alike_fields : (fs : List (RawField Id)) → AreAlike (fields_of fs) (fields_of (map bare.bare_field fs))
alike_fields [] = tt
alike_fields (f ∷ fs) = (refl, refl, alike_fields fs)

alike_emitters_from : (n : ℕ) (hs : List (RawHpart Id)) → AreAlike (counting emitter_of next_emitter n hs) (counting emitter_of next_emitter n (map bare.bare_hpart hs))
alike_emitters_from n [] = tt
alike_emitters_from n (emitter at x u bound ∷ hs) = (refl, refl, alike_emitters_from (n + 1) hs)
alike_emitters_from n (callback at x ss ∷ hs) = alike_emitters_from n hs

pub alike_emitters : (hs : List (RawHpart Id)) → AreAlike (emitters_of hs) (emitters_of (map bare.bare_hpart hs))
alike_emitters hs = alike_emitters_from 0 hs

alike_states_from : (n : ℕ) (ps : List (RawPart Id)) → AreAlike (counting state_of next_state n ps) (counting state_of next_state n (map bare.bare_part ps))
alike_states_from n [] = tt
alike_states_from n (state at x t ∷ ps) = (refl, refl, alike_states_from (n + 1) ps)
alike_states_from n (handler at x u hs ∷ ps) = alike_states_from n ps

pub alike_states : (ps : List (RawPart Id)) → AreAlike (states_of ps) (states_of (map bare.bare_part ps))
alike_states ps = alike_states_from 0 ps

alike_handlers : (ps : List (RawPart Id)) → AreAlike (each handler_of ps) (each handler_of (map bare.bare_part ps))
alike_handlers [] = tt
alike_handlers (state at x t ∷ ps) = alike_handlers ps
alike_handlers (handler at x u hs ∷ ps) = (refl, refl, alike_handlers ps)

alike_from : (n : Counts) (xs : List (RawItem Id)) → AreAlike (counting declared_by counted n xs) (counting declared_by counted n (map bare.bare_item xs))
alike_from n [] = tt
alike_from n (fields at x fs ∷ xs) = (refl, refl, alike_from (record n { records = n.records + 1 }) xs)
alike_from n (init at x p ∷ xs) = (refl, refl, alike_from (record n { sources = n.sources + 1 }) xs)
alike_from n (period at x ms p d ∷ xs) = (refl, refl, alike_from (record n { sources = n.sources + 1 }) xs)
alike_from n (signal at x t p d ∷ xs) = (refl, refl, alike_from (record n { sources = n.sources + 1 }) xs)
alike_from n (channel at x t ∷ xs) = (refl, refl, alike_from (record n { channels = n.channels + 1 }) xs)
alike_from n (output at x u ∷ xs) = (refl, refl, alike_from n xs)
alike_from n (monitor at x ps ∷ xs) = (refl, refl, alike_append (each handler_of ps) (each handler_of (map bare.bare_part ps)) (counting declared_by counted n xs) (counting declared_by counted n (map bare.bare_item xs)) (alike_handlers ps) (alike_from n xs))

pub alike_file : (xs : List (RawItem Id)) → AreAlike (declared_in xs) (declared_in (map bare.bare_item xs))
alike_file xs = alike_from (record { records = 0; sources = 0; channels = 0 }) xs

-- ---- scopes

pub record AlikeScopes (s z : Scope) : Type 0 where
  pub names : AreAlike s.names z.names
  pub binders : s.binders ≡ z.binders

pub record AlikeAround (a b : Around) : Type 0 where
  pub file : FindSame a.file b.file
  pub states : FindSame a.states b.states
  pub emitters : FindSame a.emitters b.emitters

either_same : {T : Type 0} (o p x y : Option (Declared T)) → what_of o ≡ what_of p → what_of x ≡ what_of y → what_of (option_or o x) ≡ what_of (option_or p y)
either_same None None x y h k = k
either_same None (Some e) x y h k = absurd (cc)
either_same (Some d) None x y h k = absurd (cc)
either_same (Some d) (Some e) x y h k = h

pub seen_same : (f g : Find Target) (s z : Scope) → FindSame f g → AlikeScopes s z → FindSame (in_scope f s) (in_scope g z)
seen_same f g s z h k = record { at = λ n. either_same (f n) (g n) (find s.names n) (find z.names n) (h.at n) (alike_at s.names z.names k.names n) }

pub none_alike : AlikeScopes no_names no_names
none_alike = record { names = tt; binders = refl }

pub entry_alike : (x : Id) → AlikeScopes (entry x) (entry (bare.bare_id x))
entry_alike x = record { names = (refl, refl, tt); binders = refl }

pub past_alike : (s z : Scope) (m n : ℕ) → m ≡ n → AlikeScopes s z → AlikeScopes (past s m) (past z n)
past_alike s z m n e h = record { names = h.names; binders = ap₂ (λ i j. i + j) h.binders e }

pub named_alike : (s z : Scope) (x : Id) → AlikeScopes s z → AlikeScopes (with_name s x) (with_name z (bare.bare_id x))
named_alike s z x h = record {
  names = alike_append s.names z.names (declared_as x (target.Binder s.binders) ∷ []) (declared_as (bare.bare_id x) (target.Binder z.binders) ∷ []) h.names (refl, ap target.Binder h.binders, tt);
  binders = ap (λ n. n + 1) h.binders;
}

mutual
  bound_same : (s : RawStmt Id) → bound_by s ≡ bound_by (bare.bare_stmt s)
  bound_same (bind at x e) = refl
  bound_same (local at x t) = refl
  bound_same (set at p e) = refl
  bound_same (copy at p q) = refl
  bound_same (branch at e then_at ss else_at ts) = ap₂ (λ m n. m + n) (all_bound_same ss) (all_bound_same ts)
  bound_same (loop at x n body) = ap (λ m. 1 + m) (all_bound_same body)
  bound_same (emit at u e) = refl

  pub all_bound_same : (ss : RawStmts Id) → bound_by_all ss ≡ bound_by_all (bare.bare_stmts ss)
  all_bound_same no_stmts = refl
  all_bound_same (stmt s ss) = ap₂ (λ m n. m + n) (bound_same s) (all_bound_same ss)

pub after_alike : (s z : Scope) (t : RawStmt Id) → AlikeScopes s z → AlikeScopes (after s t) (after z (bare.bare_stmt t))
after_alike s z (bind at x e) h = named_alike s z x h
after_alike s z (local at x t) h = named_alike s z x h
after_alike s z (set at p e) h = h
after_alike s z (copy at p q) h = h
after_alike s z (branch at e then_at ss else_at ts) h = past_alike (past s (bound_by_all ss)) (past z (bound_by_all (bare.bare_stmts ss))) _ _ (all_bound_same ts) (past_alike s z _ _ (all_bound_same ss) h)
after_alike s z (loop at x n body) h = past_alike s z _ _ (ap (λ m. 1 + m) (all_bound_same body)) h
after_alike s z (emit at u e) h = h

pub around_alike : (f g : Find Thing) (k l : Find Target) (hs : List (RawHpart Id)) → FindSame f g → FindSame k l → AlikeAround (around f k hs) (around g l (map bare.bare_hpart hs))
around_alike f g k l hs h j = record { file = h; states = j; emitters = alike_find (emitters_of hs) (emitters_of (map bare.bare_hpart hs)) (alike_emitters hs) }
