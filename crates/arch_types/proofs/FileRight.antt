-- The handlers of a file as they are computed are what it becomes, or give its first fault.
use Rattle.std.proofs.Common.{◌≡◌, ◌⊎◌, inl, inr, ℕ, zero, suc, ◌<◌, ◌≤◌, List, [], ◌∷◌, ◌++◌, length, get_or, All, Option, Some, None, Result, Ok, Err, refl, sym, ap, subst, ◌∙◌, arith}
use Rattle.std.specs.Prelude.{Contains}
use Rattle.std.proofs.lemmas.List.Elements.{All-head, All-tail}
use Rattle.tower_syntax.specs.RawTree.{Id, Link, RawHpart, emitter, callback, Raw, RawStmts}
use Rattle.tower_syntax.specs.View.{stmts_of}
use Rattle.tower_syntax.specs.Arch.{Arch, Body, Handler}
use Rattle.arch_types.specs.declared.fault.TypeFault.{TypeFault}
use Rattle.arch_types.specs.declared.fault.TypeFault.TheVariants as fault
use Rattle.arch_types.specs.declared.high.High.{High}
use Rattle.arch_types.specs.Offence.{Faults, offset, IsClean, IsFirst}
use Rattle.arch_types.specs.Typing.{Env}
use Rattle.arch_types.specs.Body.{BecomesAll, BreaksAll, DeepsAll, Offends}
use Rattle.arch_types.specs.Order.{start_in, AscendsAll}
use Rattle.arch_types.specs.Outline.{each, outline, with_handlers, Written, handlers_of, emitter_of, callback_of}
use Rattle.arch_types.specs.File.{entry, IsBody, AreBodies, IsHandler, AreHandlers, IsChecked, Offence, start_of, AscendCallbacks, AscendsFile}
use Rattle.arch_types.specs.Numbered.{Counts, SeesAll, IsPartOf, IsHandler as IsNumberedHandler, IsNumbered}
use Rattle.arch_types.specs.Walk.{Known, and_then, deep, AllWalked, walked_all}
use Rattle.arch_types.proofs.Right.{AreOrdered, Told, RightAll}
use Rattle.arch_types.specs.Turns.{in_turn, finished, bodied, known_in, handled}
use Rattle.arch_types.proofs.Sequence.{first_left, first_right, clean_both, first_of_same}
use Rattle.arch_types.proofs.Within.{list_begins, all_offends_inside}
use Rattle.arch_types.proofs.StmtRight.{right_all, seen_by}
use Rattle.arch_types.proofs.Entry.{entry_agrees, counts_in, entry_within}

abbrev Callback : Type 0
Callback = Id × RawStmts Link

-- ---- the faults of lists of callbacks

abbrev InCallbacks : Env → List Callback → Faults
InCallbacks Γ [] f = ⊥
InCallbacks Γ (c ∷ cs) f = Offends Γ c.1 f ⊎ InCallbacks Γ cs f

start_before : (cs : List Callback) (end : ℕ) → AscendCallbacks cs end → start_of cs end ≤ end
start_before [] end o = omega arith
start_before (c ∷ cs) end o = let a = o.0 in let b = list_begins c.1 (start_of cs end) o.1 in let d = start_before cs end o.2 in omega arith

callbacks_after : (Γ : Env) (cs : List Callback) (end : ℕ) → AscendCallbacks cs end → (f : TypeFault) → InCallbacks Γ cs f → start_of cs end ≤ offset f
callbacks_after Γ [] end o f h = absurd h
callbacks_after Γ (c ∷ cs) end o f h = let a = o.0 in let b = list_begins c.1 (start_of cs end) o.1 in elim h [
  | inl x ↦ let l = (all_offends_inside c.1 Γ (start_of cs end) o.1 f x).from in omega arith
  | inr x ↦ let l = callbacks_after Γ cs end o.2 f x in omega arith
]

callbacks_behind : (Γ : Env) (cs : List Callback) (end : ℕ) → AscendCallbacks cs end → (f : TypeFault) → InCallbacks Γ cs f → 0 < offset f
callbacks_behind Γ [] end o f h = absurd h
callbacks_behind Γ (c ∷ cs) end o f h = elim h [
  | inl x ↦ let l = (all_offends_inside c.1 Γ (start_of cs end) o.1 f x).from in let a = o.0 in omega arith
  | inr x ↦ callbacks_behind Γ cs end o.2 f x
]

callbacks_before : (Γ : Env) (cs : List Callback) (end : ℕ) → AscendCallbacks cs end → (f : TypeFault) → InCallbacks Γ cs f → offset f < end
callbacks_before Γ [] end o f h = absurd h
callbacks_before Γ (c ∷ cs) end o f h = elim h [
  | inl x ↦ let l = (all_offends_inside c.1 Γ (start_of cs end) o.1 f x).below in let m = start_before cs end o.2 in omega arith
  | inr x ↦ callbacks_before Γ cs end o.2 f x
]

-- ---- one callback

abbrev RightBody : Env → Callback → Result Body TypeFault → Type 0
RightBody Γ c (Ok b) = IsBody Γ c b × IsClean (Offends Γ c.1)
RightBody Γ c (Err f) = AreOrdered c.1 → IsFirst (Offends Γ c.1) f

body_finished : (Γ : Env) (c : Callback) (high : Option High) (b : Body) → IsBody Γ c b → IsClean (λ f. BreaksAll Γ c.1 f) → Told (AreOrdered c.1) high (λ f. DeepsAll Γ c.1 f) → RightBody Γ c (finished high b)
body_finished Γ c None b h n t = (h, clean_both (λ f. BreaksAll Γ c.1 f) (λ f. DeepsAll Γ c.1 f) n t)
body_finished Γ c (Some d) b h n t = λ o. first_right (λ f. BreaksAll Γ c.1 f) (λ f. DeepsAll Γ c.1 f) (deep d) n (t o)

module _ (γ : Known) (Γ : Env) (none : γ.binders ≡ []) where
  body_walked : (c : Callback) (r : Result AllWalked TypeFault) → RightAll γ Γ c.1 r → RightBody Γ c (and_then r (λ d. finished d.high (record { param = c.0.name; binders = d.binders; stmts = stmts_of d.trees })))
  body_walked c (Err f) h = λ o. (h o).0
  body_walked c (Ok d) h =
      let e : d.binders ≡ h.names = h.bound ∙ ap (λ b. b ++ h.names) none in
      body_finished Γ c d.high (record { param = c.0.name; binders = d.binders; stmts = stmts_of d.trees }) (refl, subst (λ b. BecomesAll Γ c.1 b (stmts_of d.trees)) (sym e) h.tree) h.clean h.told

-- ---- the callbacks of a handler

abbrev AllSee : Counts → List Callback → Type 0
AllSee n [] = Unit {0}
AllSee n (c ∷ cs) = SeesAll n c.1 × AllSee n cs

parts_see : (arch : Arch) (n : Counts) (ps : List (RawHpart Link)) → All (IsPartOf arch n) ps → AllSee n (each callback_of ps)
parts_see arch n [] h = tt {0}
parts_see arch n (emitter at i u b ∷ ps) h = parts_see arch n ps (All-tail (IsPartOf arch n) (emitter at i u b) ps h)
parts_see arch n (callback at i ss ∷ ps) h = ((All-head (IsPartOf arch n) (callback at i ss) ps h).0, parts_see arch n ps (All-tail (IsPartOf arch n) (callback at i ss) ps h))

abbrev RightBodies : Env → List Callback → Result (List Body) TypeFault → Type 0
RightBodies Γ cs (Ok bs) = AreBodies Γ cs bs × IsClean (InCallbacks Γ cs)
RightBodies Γ cs (Err f) = (end : ℕ) → AscendCallbacks cs end → IsFirst (InCallbacks Γ cs) f

module _ (Γ : Env) (c : Callback) (cs : List Callback) where
  bodies_joined : (r : Result Body TypeFault) (q : Result (List Body) TypeFault) → RightBody Γ c r → RightBodies Γ cs q → RightBodies Γ (c ∷ cs) (and_then r (λ b. and_then q (λ bs. Ok (b ∷ bs))))
  bodies_joined (Err f) q h k = λ end o.
      let p = h (start_of cs end, o.1) in
      first_left (Offends Γ c.1) (InCallbacks Γ cs) f (start_of cs end) p (all_offends_inside c.1 Γ (start_of cs end) o.1 f p.is_one).below (callbacks_after Γ cs end o.2)
  bodies_joined (Ok b) (Err f) h k = λ end o. first_right (Offends Γ c.1) (InCallbacks Γ cs) f h.1 (k end o.2)
  bodies_joined (Ok b) (Ok bs) h k = ((h.0, k.0), clean_both (Offends Γ c.1) (InCallbacks Γ cs) h.1 k.1)

module _ (arch : Arch) (w : Written) where
  abbrev Γ : Env
  Γ = entry arch w

  abbrev γ : Known
  γ = known_in arch w

  body_right : (c : Callback) → SeesAll (counts_in arch w) c.1 → RightBody Γ c (bodied γ c)
  body_right c h =
      let a = entry_agrees arch w in
      body_walked γ Γ refl c (walked_all γ c.1) (seen_by γ Γ c.1 (walked_all γ c.1) a (right_all c.1 (counts_in arch w) γ Γ.has a.has (entry_within arch w) h))

  bodies_right : (cs : List Callback) → AllSee (counts_in arch w) cs → RightBodies Γ cs (in_turn (bodied γ) cs)
  bodies_right [] h = (tt {0}, λ f x. x)
  bodies_right (c ∷ cs) h = bodies_joined Γ c cs (bodied γ c) (in_turn (bodied γ) cs) (body_right c h.0) (bodies_right cs h.1)

  abbrev callbacks : List Callback
  callbacks = each callback_of w.parts

  abbrev RightHandler : Result Handler TypeFault → Type 0
  RightHandler (Ok h) = IsHandler arch w h × IsClean (InCallbacks Γ callbacks)
  RightHandler (Err f) = (end : ℕ) → AscendCallbacks callbacks end → IsFirst (InCallbacks Γ callbacks) f

  handler_made : (r : Result (List Body) TypeFault) → RightBodies Γ callbacks r
      → RightHandler (and_then r (λ bs. Ok (record { name = w.name.name; monitor = w.monitor; on = Rattle.arch_types.specs.Outline.on_of w.on.target; emitters = each emitter_of w.parts; callbacks = bs })))
  handler_made (Ok bs) h = (record { name = refl; monitor = refl; on = refl; emitters = refl; callbacks = h.0 }, h.1)
  handler_made (Err f) h = h

  handler_right : IsNumberedHandler arch w → RightHandler (handled arch w)
  handler_right n = handler_made (in_turn (bodied γ) callbacks) (bodies_right callbacks (parts_see arch (counts_in arch w) w.parts n.parts))

-- ---- the handlers of a file

abbrev callbacks_in : List Written → List Callback
callbacks_in ws = each (λ w. each callback_of w.parts) ws

module _ (arch : Arch) where
  abbrev InHandlers : List Written → Faults
  InHandlers [] f = ⊥
  InHandlers (w ∷ ws) f = InCallbacks (entry arch w) (each callback_of w.parts) f ⊎ InHandlers ws f

  abbrev RightHandlers : List Written → Result (List Handler) TypeFault → Type 0
  RightHandlers ws (Ok hs) = AreHandlers arch ws hs × IsClean (InHandlers ws)
  RightHandlers ws (Err f) = (end : ℕ) → AscendCallbacks (callbacks_in ws) end → IsFirst (InHandlers ws) f

start_of-append : (xs ys : List Callback) (end : ℕ) → start_of (xs ++ ys) end ≡ start_of xs (start_of ys end)
start_of-append [] ys end = refl
start_of-append (x ∷ xs) ys end = refl

ascend_left : (xs ys : List Callback) (end : ℕ) → AscendCallbacks (xs ++ ys) end → AscendCallbacks xs (start_of ys end)
ascend_left [] ys end o = tt {0}
ascend_left (x ∷ xs) ys end o =
    let e = start_of-append xs ys end in
    (subst (λ k. x.0.at < start_in x.1 k) e o.0, subst (AscendsAll x.1) e o.1, ascend_left xs ys end o.2)

ascend_right : (xs ys : List Callback) (end : ℕ) → AscendCallbacks (xs ++ ys) end → AscendCallbacks ys end
ascend_right [] ys end o = o
ascend_right (x ∷ xs) ys end o = ascend_right xs ys end o.2

module _ (arch : Arch) where
  handlers_after : (ws : List Written) (end : ℕ) → AscendCallbacks (callbacks_in ws) end → (f : TypeFault) → InHandlers arch ws f → start_of (callbacks_in ws) end ≤ offset f
  handlers_after [] end o f h = absurd h
  handlers_after (w ∷ ws) end o f h =
      let xs = each callback_of w.parts in let ys = callbacks_in ws in let middle = start_of ys end in
      let e = start_of-append xs ys end in let l = ascend_left xs ys end o in elim h [
        | inl x ↦ let a = callbacks_after (entry arch w) xs middle l f x in omega arith
        | inr x ↦ let a = handlers_after ws end (ascend_right xs ys end o) f x in let b = start_before xs middle l in omega arith
      ]

  handlers_behind : (ws : List Written) (end : ℕ) → AscendCallbacks (callbacks_in ws) end → (f : TypeFault) → InHandlers arch ws f → 0 < offset f
  handlers_behind [] end o f h = absurd h
  handlers_behind (w ∷ ws) end o f h =
      let xs = each callback_of w.parts in let ys = callbacks_in ws in elim h [
        | inl x ↦ callbacks_behind (entry arch w) xs (start_of ys end) (ascend_left xs ys end o) f x
        | inr x ↦ handlers_behind ws end (ascend_right xs ys end o) f x
      ]

  handlers_joined : (w : Written) (ws : List Written) (r : Result Handler TypeFault) (q : Result (List Handler) TypeFault) → RightHandler arch w r → RightHandlers arch ws q
      → RightHandlers arch (w ∷ ws) (and_then r (λ h. and_then q (λ hs. Ok (h ∷ hs))))
  handlers_joined w ws (Err f) q h k = λ end o.
      let xs = each callback_of w.parts in let ys = callbacks_in ws in let middle = start_of ys end in let l = ascend_left xs ys end o in
      let p = h middle l in
      first_left (InCallbacks (entry arch w) xs) (InHandlers arch ws) f middle p (callbacks_before (entry arch w) xs middle l f p.is_one) (handlers_after ws end (ascend_right xs ys end o))
  handlers_joined w ws (Ok b) (Err f) h k = λ end o.
      let xs = each callback_of w.parts in let ys = callbacks_in ws in
      first_right (InCallbacks (entry arch w) xs) (InHandlers arch ws) f h.1 (k end (ascend_right xs ys end o))
  handlers_joined w ws (Ok b) (Ok bs) h k = ((h.0, k.0), clean_both (InCallbacks (entry arch w) (each callback_of w.parts)) (InHandlers arch ws) h.1 k.1)

  handlers_right : (ws : List Written) → All (IsNumberedHandler arch) ws → RightHandlers arch ws (in_turn (handled arch) ws)
  handlers_right [] n = (tt {0}, λ f x. x)
  handlers_right (w ∷ ws) n =
      handlers_joined w ws (handled arch w) (in_turn (handled arch) ws) (handler_right arch w (All-head (IsNumberedHandler arch) w ws n)) (handlers_right ws (All-tail (IsNumberedHandler arch) w ws n))

-- ---- the faults of the file

in_callbacks : (Γ : Env) (cs : List Callback) (k : ℕ) (c : Callback) (f : TypeFault) → k < length cs → get_or cs k c ≡ c → Offends Γ c.1 f → InCallbacks Γ cs f
in_callbacks Γ [] k c f l e h = absurd (omega arith)
in_callbacks Γ (x ∷ cs) zero c f l e h = inl (subst (λ z. Offends Γ z.1 f) (sym e) h)
in_callbacks Γ (x ∷ cs) (suc k) c f l e h = inr (in_callbacks Γ cs k c f (omega arith) e h)

in_handlers : (arch : Arch) (ws : List Written) (k : ℕ) (w : Written) (f : TypeFault) → k < length ws → get_or ws k w ≡ w → InCallbacks (entry arch w) (each callback_of w.parts) f → InHandlers arch ws f
in_handlers arch [] k w f l e h = absurd (omega arith)
in_handlers arch (x ∷ ws) zero w f l e h = inl (subst (λ z. InCallbacks (entry arch z) (each callback_of z.parts) f) (sym e) h)
in_handlers arch (x ∷ ws) (suc k) w f l e h = inr (in_handlers arch ws k w f (omega arith) e h)

from_callbacks : (Γ : Env) (cs : List Callback) (f : TypeFault) → InCallbacks Γ cs f → (c : Callback) × Contains cs c × Offends Γ c.1 f
from_callbacks Γ [] f h = absurd h
from_callbacks Γ (c ∷ cs) f h = elim h [
  | inl x ↦ (c, (0, omega arith, refl), x)
  | inr x ↦ let (d, (k, l, e), y) = from_callbacks Γ cs f x in (d, (suc k, omega arith, e), y)
]

from_handlers : (arch : Arch) (ws : List Written) (f : TypeFault) → InHandlers arch ws f → (w : Written) × Contains ws w × InCallbacks (entry arch w) (each callback_of w.parts) f
from_handlers arch [] f h = absurd h
from_handlers arch (w ∷ ws) f h = elim h [
  | inl x ↦ (w, (0, omega arith, refl), x)
  | inr x ↦ let (d, (k, l, e), y) = from_handlers arch ws f x in (d, (suc k, omega arith, e), y)
]

module _ (raw : Raw Link) where
  to_handlers : (f : TypeFault) → Offence raw f → InHandlers (outline raw) (handlers_of raw) f
  to_handlers f o =
      let (k, l, e) = o.in_file in let (j, m, d) = o.in_handler in
      in_handlers (outline raw) (handlers_of raw) k o.handler f l e (in_callbacks (entry (outline raw) o.handler) (each callback_of o.handler.parts) j o.callback f m d o.offends)

  to_offence : (f : TypeFault) → InHandlers (outline raw) (handlers_of raw) f → Offence raw f
  to_offence f h =
      let (w, i, x) = from_handlers (outline raw) (handlers_of raw) f h in let (c, j, y) = from_callbacks (entry (outline raw) w) (each callback_of w.parts) f x in
      record { handler = w; in_file = i; callback = c; in_handler = j; offends = y }

  -- it stands behind the name of its callback
  pub offence_inside : (end : ℕ) → AscendsFile raw end → (f : TypeFault) → Offence raw f → 0 < offset f
  offence_inside end o f h = handlers_behind (outline raw) (handlers_of raw) end o f (to_handlers f h)

  module _ (n : IsNumbered raw) (parts : Arch) (e : parts ≡ outline raw) where
    computed : RightHandlers (outline raw) (handlers_of raw) (in_turn (handled parts) (handlers_of raw))
    computed = subst (λ a. RightHandlers (outline raw) (handlers_of raw) (in_turn (handled a) (handlers_of raw))) (sym e) (handlers_right (outline raw) (handlers_of raw) n.handlers)

    pub file_clean : (hs : List Handler) → in_turn (handled parts) (handlers_of raw) ≡ Ok hs → IsClean (Offence raw)
    file_clean hs h f o = (subst (RightHandlers (outline raw) (handlers_of raw)) h computed).1 f (to_handlers f o)

    pub file_checked : (hs : List Handler) → in_turn (handled parts) (handlers_of raw) ≡ Ok hs → IsChecked raw (with_handlers parts hs)
    file_checked hs h = record {
      outlined = ap (λ a. with_handlers a hs) e;
      handlers = (subst (RightHandlers (outline raw) (handlers_of raw)) h computed).0;
    }

    -- the fault that is computed is the first offence
    pub first_is : (f : TypeFault) → in_turn (handled parts) (handlers_of raw) ≡ Err f → (end : ℕ) → AscendsFile raw end → IsFirst (Offence raw) f
    first_is f h end o = first_of_same (InHandlers (outline raw) (handlers_of raw)) (Offence raw) f to_offence to_handlers (subst (RightHandlers (outline raw) (handlers_of raw)) h computed end o)

    pub file_first : (f : TypeFault) → (f ≡ fault.NoMemory) ⊎ (in_turn (handled parts) (handlers_of raw) ≡ Err f) → (end : ℕ) → AscendsFile raw end → (f ≡ fault.NoMemory) ⊎ IsFirst (Offence raw) f
    file_first f h end o = elim h [
      | inl i ↦ inl i
      | inr i ↦ inr (first_is f i end o)
    ]
