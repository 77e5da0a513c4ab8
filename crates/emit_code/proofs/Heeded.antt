-- The emitters of a handler that is read, and the subscribers of their channels.
use Rattle.std.proofs.Common.{◌≡◌, ◌∙◌, ℕ, zero, suc, ◌<◌, List, [], ◌∷◌, length, map, take, get_or, slice_get, Some, All, refl, ap, sym, subst, arith}
use Rattle.std.proofs.lemmas.List.{length-map, get_or-map}
use Rattle.std.proofs.lemmas.Option.{get_or_from_slice_get}
use Rattle.tower_syntax.specs.declared.arch.On.TheVariants as on
use Rattle.tower_syntax.specs.declared.arch.Listener.{Listener}
use Rattle.tower_syntax.specs.declared.arch.Handler.{Handler as HandlerValue}
use Rattle.tower_syntax.specs.declared.arch.Emitter.{Emitter as EmitterValue}
use Rattle.tower_syntax.specs.View.{emitter_of, handler_of}
use Rattle.tower_syntax.specs.Arch.{Arch, Emitter}
use Rattle.tower_syntax.specs.Graph.{handler, no_handler, subs}
use Rattle.tower_syntax.specs.WellNumbered.{IsNumberedHandler}
use Rattle.tower_syntax.proofs.Elements.{kept}
use Rattle.emit_code.specs.Heard.{AreHeard}

pub channel_there : (arch : Arch) (v : HandlerValue) (items : List EmitterValue) (k : ℕ) (x : EmitterValue) → IsNumberedHandler arch (handler_of v) → items ≡ v.emitters → k < length items → x ≡ get_or items k x → x.channel < length arch.channels
channel_there arch v items k x numbered same within read =
    let all = subst (λ (es : List EmitterValue). All (λ e. e.channel < length arch.channels) (map emitter_of es)) (sym same) numbered.emitters in
    let inside : k < length (map emitter_of items) = omega (arith, length-map items emitter_of, within) in
    kept (λ e. e.channel < length arch.channels) emitter_of items (map emitter_of items) k x refl all read inside

pub emitters_are : (arch : Arch) (h : ℕ) (v : HandlerValue) (items : List EmitterValue) → slice_get arch.handlers h ≡ Some (handler_of v) → items ≡ v.emitters → (handler arch h).emitters ≡ map emitter_of items
emitters_are arch h v items found same = ap (λ z. z.emitters) (get_or_from_slice_get arch.handlers h (handler_of v) no_handler found) ∙ ap (map emitter_of) (sym same)

pub emitter_is : (ems : List Emitter) (items : List EmitterValue) (k : ℕ) (x : EmitterValue) → ems ≡ map emitter_of items → k < length items → x ≡ get_or items k x → get_or ems k (emitter_of x) ≡ emitter_of x
emitter_is ems items k x seen within read = ap (λ es. get_or es k (emitter_of x)) seen ∙ get_or-map emitter_of items k x (emitter_of x) within ∙ ap emitter_of (sym read)

pub emitters_count : (ems : List Emitter) (items : List EmitterValue) → ems ≡ map emitter_of items → length ems ≡ length items
emitters_count ems items seen = ap length seen ∙ length-map items emitter_of

pub get_or_default : {X : Type 0} (xs : List X) (k : ℕ) (a b : X) → k < length xs → get_or xs k a ≡ get_or xs k b
get_or_default [] k a b h = absurd (omega (arith, h))
get_or_default (x ∷ xs) zero a b h = refl
get_or_default (x ∷ xs) (suc k) a b h = get_or_default xs k a b (omega (arith, h))

pub heard_is : (arch : Arch) (heard : List (List Listener)) (c : ℕ) (ls r : List Listener) → AreHeard arch heard → c < length arch.channels → ls ≡ r → r ≡ get_or heard c r → ls ≡ subs arch (on.Channel c)
heard_is arch heard c ls r all below same read =
    let within : c < length heard = omega (arith, all.each, below) in
    same ∙ read ∙ get_or_default heard c r [] within ∙ all.has c below

pub take_whole : {X : Type 0} (xs : List X) (k : ℕ) → k ≡ length xs → take k xs ≡ xs
take_whole [] zero h = refl
take_whole [] (suc k) h = absurd (omega (arith, h))
take_whole (x ∷ xs) zero h = absurd (omega (arith, h))
take_whole (x ∷ xs) (suc k) h = ap (λ ys. x ∷ ys) (take_whole xs k (omega (arith, h)))
