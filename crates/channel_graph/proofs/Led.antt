-- What the code asks of emitters: links to a handler, and emitters on marked channels.
use Rattle.std.proofs.Common.{◌≡◌, ℕ, ◌+◌, ◌<◌, List, [], ◌∷◌, ◌++◌, length, get_or, take, map, slice_get, Some, Bool, true, false, ◌==◌, arith, refl, sym, ◌∙◌, ap, subst, inl, inr}
use Rattle.std.specs.List.{list_any}
use Rattle.std.proofs.lemmas.Bool.{false≢true, cases_Bool, eqb-true, eq-eqb}
use Rattle.std.proofs.Math.Seq.{take-length}
use Rattle.std.proofs.lemmas.List.{take_more, length-map}
use Rattle.tower_syntax.specs.declared.arch.On.TheVariants as on
use Rattle.tower_syntax.specs.declared.arch.Emitter.{Emitter as EmitterValue}
use Rattle.tower_syntax.specs.declared.arch.Handler.{Handler as HandlerValue}
use Rattle.tower_syntax.specs.Arch.{Arch}
use Rattle.tower_syntax.specs.View.{emitter_of, handler_of}
use Rattle.tower_syntax.specs.Graph.{handler, leads, same_on}
use Rattle.tower_syntax.specs.WellNumbered.{AreListeners, IsNumberedHandler}
use Rattle.tower_syntax.proofs.Elements.{kept}
use Rattle.channel_graph.specs.Reaching.{is_on}
use Rattle.channel_graph.specs.Ranked.{is_loud}
use Rattle.channel_graph.proofs.Members.{In, any_has, has_any, In-get_or}
use Rattle.channel_graph.proofs.Linked.{link_of, of_link}
use Rattle.channel_graph.proofs.Searched.{handler_read}

-- two tests that follow from each other
pub bool_same : (a b : Bool) → (a ≡ true → b ≡ true) → (b ≡ true → a ≡ true) → a ≡ b
bool_same true b f g = sym (f refl)
bool_same false true f g = g refl
bool_same false false f g = refl

pub in_map : {X Y : Type 0} (f : X → Y) (xs : List X) (x : X) → In x xs → In (f x) (map f xs)
in_map f [] x h = absurd h
in_map f (y ∷ ys) x h = elim h [ inl same ↦ inl (ap f same) | inr later ↦ inr (in_map f ys x later) ]

record Origin {X Y : Type 0} (f : X → Y) (xs : List X) (y : Y) : Type 0 where
  element : X
  has : In element xs
  is : f element ≡ y

map_in : {X Y : Type 0} (f : X → Y) (xs : List X) (y : Y) → In y (map f xs) → Origin f xs y
map_in f [] y h = absurd h
map_in f (x ∷ xs) y h = elim h [
  | inl same ↦ record { element = x; has = inl refl; is = sym same }
  | inr later ↦ let r = map_in f xs y later in record { element = r.element; has = inr r.has; is = r.is }
]

-- the emitters of a handler that is read
pub emitters_read : (arch : Arch) (h : ℕ) (v : HandlerValue) (items : List EmitterValue) → slice_get arch.handlers h ≡ Some (handler_of v) → items ≡ v.emitters → map emitter_of items ≡ (handler arch h).emitters
emitters_read arch h v items e same = ap (map emitter_of) same ∙ sym (ap (λ g. g.emitters) (handler_read arch h v e))

pub led_source : (arch : Arch) (k j : ℕ) (v : HandlerValue) (s : ℕ) → AreListeners arch → slice_get arch.handlers j ≡ Some (handler_of v) → v.on ≡ on.Source s → false ≡ leads arch k j
led_source arch k j v s listed e o =
    let at : (handler arch j).on ≡ on.Source s = ap (λ h. h.on) (handler_read arch j v e) ∙ o in
    bool_same false (leads arch k j) (λ h. absurd (false≢true h)) (λ h.
    let l = link_of arch k j listed h in subst (λ x. same_on x (on.Channel l.emitter.channel) ≡ true) at l.on)

pub led_channel : (arch : Arch) (k j : ℕ) (v w : HandlerValue) (items : List EmitterValue) (c : ℕ) → AreListeners arch → j < length arch.handlers → slice_get arch.handlers j ≡ Some (handler_of v) → v.on ≡ on.Channel c → slice_get arch.handlers k ≡ Some (handler_of w) → items ≡ w.emitters → list_any (λ e. e.channel == c) items ≡ leads arch k j
led_channel arch k j v w items c listed below e o f same =
    let at : (handler arch j).on ≡ on.Channel c = ap (λ h. h.on) (handler_read arch j v e) ∙ o in
    let all = emitters_read arch k w items f same in
    bool_same (list_any (λ x. x.channel == c) items) (leads arch k j)
    (λ h.
    let r = any_has (λ x. x.channel == c) items h in
    let on_it : is_on arch (on.Channel r.element.channel) j ≡ true = subst (λ x. same_on x (on.Channel r.element.channel) ≡ true) (sym at) (eq-eqb c r.element.channel (sym (eqb-true r.element.channel c r.passes))) in
    of_link arch k j listed (record { emitter = emitter_of r.element; has = subst (In (emitter_of r.element)) all (in_map emitter_of items r.element r.has); below = below; on = on_it }))
    (λ h.
    let l = link_of arch k j listed h in
    let r = map_in emitter_of items l.emitter (subst (In l.emitter) (sym all) l.has) in
    let test : same_on (on.Channel c) (on.Channel l.emitter.channel) ≡ true = subst (λ x. same_on x (on.Channel l.emitter.channel) ≡ true) at l.on in
    let there : r.element.channel ≡ l.emitter.channel = ap (λ x. x.channel) r.is in
    has_any (λ x. x.channel == c) items r.element r.has (eq-eqb r.element.channel c (there ∙ sym (eqb-true c l.emitter.channel test))))

-- an emitter's channel exists
pub channel_below : (arch : Arch) (v : HandlerValue) (items : List EmitterValue) (i : ℕ) (x : EmitterValue) → IsNumberedHandler arch (handler_of v) → items ≡ v.emitters → i < length items → x ≡ get_or items i x → x.channel < length arch.channels
channel_below arch v items i x numbered same within read =
    let inside : i < length (map emitter_of v.emitters) = omega (arith, length-map v.emitters emitter_of, ap length same) in
    kept (λ e. e.channel < length arch.channels) emitter_of items (map emitter_of v.emitters) i x (ap (map emitter_of) same) numbered.emitters read inside

-- a test over views of a list that grows
any_push : {X Y : Type 0} (p : Y → Bool) (f : X → Y) (xs : List X) (y : X) → list_any p (map f xs) ≡ false → p (f y) ≡ false → list_any p (map f (xs ++ y ∷ [])) ≡ false
any_push p f [] y before here = rw here refl
any_push p f (x ∷ xs) y before here = elim (cases_Bool (p (f x))) [
  | inl t ↦ let wrong : true ≡ false = rw t at before in absurd (false≢true (sym wrong))
  | inr t ↦ let rest : list_any p (map f xs) ≡ false = rw t at before in rw t (any_push p f xs y rest here)
]

pub any_more : {X Y : Type 0} (p : Y → Bool) (f : X → Y) (xs : List X) (i : ℕ) (d : X) → i < length xs → list_any p (map f (take i xs)) ≡ false → p (f (get_or xs i d)) ≡ false → list_any p (map f (take (i + 1) xs)) ≡ false
any_more p f xs i d h before here = ap (λ ys. list_any p (map f ys)) (take_more xs i d h) ∙ any_push p f (take i xs) (get_or xs i d) before here

pub heard_yes : (arch : Arch) (loud : List Bool) (k : ℕ) (v : HandlerValue) (items : List EmitterValue) (i : ℕ) (x : EmitterValue) → slice_get arch.handlers k ≡ Some (handler_of v) → items ≡ v.emitters → i < length items → x ≡ get_or items i x → get_or loud x.channel false ≡ true → true ≡ is_loud arch loud k
heard_yes arch loud k v items i x e same within read marked =
    let there : In x items = subst (λ y. In y items) (sym read) (In-get_or items i x within) in
    let has : In (emitter_of x) (handler arch k).emitters = subst (In (emitter_of x)) (emitters_read arch k v items e same) (in_map emitter_of items x there) in
    sym (has_any (λ y. get_or loud y.channel false) (handler arch k).emitters (emitter_of x) has marked)

pub heard_no : (arch : Arch) (loud : List Bool) (k : ℕ) (v : HandlerValue) (items : List EmitterValue) (i : ℕ) → slice_get arch.handlers k ≡ Some (handler_of v) → items ≡ v.emitters → i ≡ length items → list_any (λ y. get_or loud y.channel false) (map emitter_of (take i items)) ≡ false → false ≡ is_loud arch loud k
heard_no arch loud k v items i e same end none =
    let whole : take i items ≡ items = ap (λ n. take n items) end ∙ take-length items in
    let all : map emitter_of (take i items) ≡ (handler arch k).emitters = ap (map emitter_of) whole ∙ emitters_read arch k v items e same in
    sym (subst (λ es. list_any (λ y. get_or loud y.channel false) es ≡ false) all none)
