-- What is looked up in a list, by its views.
use Rattle.std.proofs.Common.{◌≡◌, ◌∙◌, ℕ, zero, suc, ◌<◌, ◌≤◌, List, [], ◌∷◌, length, map, get_or, slice_get, Some, All, arith, refl, ap, sym, subst}
use Rattle.std.proofs.lemmas.Option.{get_or_from_slice_get, slice_get-map}
use Rattle.std.specs.Option.{option_map}
use Rattle.tower_types.specs.declared.scalar.Scalar.TheVariants.{I64}
use Rattle.tower_types.specs.declared.ty.Ty.{Ty as TyValue}
use Rattle.tower_types.specs.Ty.{Ty, Name, Fields, scalar, Shape, shapes_of, shape_in, table_of, shape_of_fields}
use Rattle.tower_types.specs.View.{ty_of, fields_of}
use Rattle.tower_syntax.specs.declared.arch.Channel.{Channel as ChannelValue}
use Rattle.tower_syntax.specs.declared.arch.Monitor.{Monitor as MonitorValue}
use Rattle.tower_syntax.specs.declared.arch.Emitter.{Emitter as EmitterValue}
use Rattle.tower_syntax.specs.Arch.{Arch, Handler, Emitter}
use Rattle.tower_syntax.specs.View.{channel_of, monitor_of, emitter_of}
use Rattle.tower_syntax.specs.Weights.{no_shape, nth_shape, shape_at, field_shape, field_shapes, channel_message, states_of}
use Rattle.tower_syntax.specs.WellNumbered.{AreNumberedFields, IsNumberedType}
use Rattle.channel_graph.specs.Scoped.{HasShape}
use Rattle.channel_graph.proofs.Sized.{each_view}

pub read_twice : {X Y Z : Type 0} (f : Y → Z) (view : X → Y) (xs : List X) (k : ℕ) (x : X) (d : Z) → k < length xs → x ≡ get_or xs k x → get_or (map f (map view xs)) k d ≡ f (view x)
read_twice f view [] k x d within read = absurd (omega arith)
read_twice f view (y ∷ ys) zero x d within read = ap (λ z. f (view z)) (sym read)
read_twice f view (y ∷ ys) (suc k) x d within read = read_twice f view ys k x d (omega arith) read

pub past_twice : {X Y Z : Type 0} (f : Y → Z) (view : X → Y) (xs : List X) (k : ℕ) (d : Z) → length xs ≤ k → get_or (map f (map view xs)) k d ≡ d
past_twice f view [] k d past = refl
past_twice f view (y ∷ ys) zero d past = absurd (omega arith)
past_twice f view (y ∷ ys) (suc k) d past = past_twice f view ys k d (omega arith)

-- what is listed of each field is known of the one that is found
pub field_found : (arch : Arch) (fields : Fields) (bs : List (Name × TyValue)) (k : ℕ) (x : Name × TyValue) → AreNumberedFields (length arch.records) fields → fields_of bs ≡ fields → k < length bs → x ≡ get_or bs k x → HasShape arch (shape_at (field_shapes (table_of arch.records) fields) k) (ty_of x.1)
field_found arch fields bs k x numbered same within read =
    let known = subst (AreNumberedFields (length arch.records)) (sym same) numbered in
    let seen : Name × TyValue → Name × Ty = λ f. (f.0, ty_of f.1) in
    record {
      numbered = each_view (λ (f : Name × Ty). IsNumberedType (length arch.records) f.1) seen bs k x known.1 within read;
      shape = sym (read_twice (λ (f : Name × Ty). shape_in (table_of arch.records) f.1) seen bs k x no_shape within read) ∙ ap (λ fs. shape_at (field_shapes (table_of arch.records) fs) k) same;
    }

pub field_none : (arch : Arch) (fields : Fields) (bs : List (Name × TyValue)) (k : ℕ) → fields_of bs ≡ fields → length bs ≤ k → shape_at (field_shapes (table_of arch.records) fields) k ≡ no_shape
field_none arch fields bs k same past =
    sym (ap (λ fs. shape_at (field_shapes (table_of arch.records) fs) k) same) ∙ past_twice (λ (f : Name × Ty). shape_in (table_of arch.records) f.1) (λ (f : Name × TyValue). (f.0, ty_of f.1)) bs k no_shape past

nth-shapes : (ss : List Shape) (k : ℕ) → nth_shape (shapes_of ss) k ≡ shape_at ss k
nth-shapes [] k = refl
nth-shapes (s ∷ ss) zero = refl
nth-shapes (s ∷ ss) (suc k) = nth-shapes ss k

-- a field of a record's shape
pub field_of : (table : List Shape) (fields : Fields) (k : ℕ) → field_shape k (shape_of_fields table fields) ≡ shape_at (field_shapes table fields) k
field_of table fields k = nth-shapes (field_shapes table fields) k

-- the message of a channel that is read
pub channel_read : (arch : Arch) (c : ℕ) (x : ChannelValue) → slice_get arch.channels c ≡ Some (channel_of x) → channel_message arch c ≡ ty_of x.message
channel_read arch c x e =
    get_or_from_slice_get (map (λ y. y.message) arch.channels) c (ty_of x.message) (scalar I64) (slice_get-map (λ y. y.message) arch.channels c ∙ ap (option_map (λ y. y.message)) e)

-- the states of a monitor that is read
pub states_read : (arch : Arch) (m : ℕ) (x : MonitorValue) → slice_get arch.monitors m ≡ Some (monitor_of x) → states_of arch m ≡ fields_of x.states
states_read arch m x e =
    get_or_from_slice_get (map (λ y. y.states) arch.monitors) m (fields_of x.states) [] (slice_get-map (λ y. y.states) arch.monitors m ∙ ap (option_map (λ y. y.states)) e)

-- the message on an emitter that is found
pub emitter_found : (arch : Arch) (h : Handler) (es : List EmitterValue) (k : ℕ) (e : EmitterValue) (x : ChannelValue) → map emitter_of es ≡ h.emitters → k < length es → e ≡ get_or es k e → slice_get arch.channels e.channel ≡ Some (channel_of x) → IsNumberedType (length arch.records) (ty_of x.message) → HasShape arch (shape_at (map (λ y. shape_in (table_of arch.records) (channel_message arch y.channel)) h.emitters) k) (ty_of x.message)
emitter_found arch h es k e x same within read channel numbered =
    let shape_of = λ (y : Emitter). shape_in (table_of arch.records) (channel_message arch y.channel) in
    record {
      numbered = numbered;
      shape = ap (shape_in (table_of arch.records)) (sym (channel_read arch e.channel x channel)) ∙ sym (read_twice shape_of emitter_of es k e no_shape within read) ∙ ap (λ ys. shape_at (map shape_of ys) k) same;
    }

pub emitter_none : (arch : Arch) (h : Handler) (es : List EmitterValue) (k : ℕ) → map emitter_of es ≡ h.emitters → length es ≤ k → shape_at (map (λ y. shape_in (table_of arch.records) (channel_message arch y.channel)) h.emitters) k ≡ no_shape
emitter_none arch h es k same past =
    let shape_of = λ (y : Emitter). shape_in (table_of arch.records) (channel_message arch y.channel) in
    sym (ap (λ ys. shape_at (map shape_of ys) k) same) ∙ past_twice shape_of emitter_of es k no_shape past

-- the channel of an emitter that is found exists
pub emitter_below : (arch : Arch) (h : Handler) (es : List EmitterValue) (k : ℕ) (e : EmitterValue) → map emitter_of es ≡ h.emitters → All (λ y. y.channel < length arch.channels) h.emitters → k < length es → e ≡ get_or es k e → e.channel < length arch.channels
emitter_below arch h es k e same all within read =
    each_view (λ (y : Emitter). y.channel < length arch.channels) emitter_of es k e (subst (All (λ y. y.channel < length arch.channels)) (sym same) all) within read
