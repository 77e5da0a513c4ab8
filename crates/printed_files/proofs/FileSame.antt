-- What a file declares, and the handlers that the walk makes, are the same, whatever the offsets.
use Rattle.std.proofs.Common.{◌≡◌, ℕ, ◌+◌, List, [], ◌∷◌, ◌++◌, map, Option, Some, None, Result, Ok, Err, refl, sym, ap, ap₂, subst, ◌∙◌}
use Rattle.tower_syntax.specs.RawTree.{Id, Link, RawStmts, RawField, RawHpart, emitter, callback, RawPart, state, handler, RawItem, fields, init, period, signal, channel, output, monitor, Raw}
use Rattle.tower_syntax.specs.Arch.{Arch, Body}
use Rattle.tower_syntax.specs.View.{stmts_of}
use Rattle.tower_syntax.specs.declared.arch.Listener.TheVariants as to
use Rattle.tower_syntax.specs.declared.arch.SourceKind.TheVariants as kind
use Rattle.arch_types.specs.declared.fault.TypeFault.{TypeFault}
use Rattle.arch_types.specs.declared.high.High.{High}
use Rattle.arch_types.specs.Outline.{each, field, record_of, record_name_of, source_of, channel_of, output_of, state_of, monitor_of, part_listeners, handlers_in, listeners, outline, Written, written_of, handlers_from, handlers_of, on_of, emitter_of, callback_of}
use Rattle.arch_types.specs.File.{messages}
use Rattle.arch_types.specs.Walk.{Known, walked_all}
use Rattle.arch_types.specs.Turns.{in_turn, finished, bodied, known_in, handled}
use Rattle.tower_reader.specs.Alike.{bare_id}
use Rattle.printed_files.specs.Bare.{bare_stmts, bare_field, bare_hpart, bare_part, bare_item, bare_raw, bare_written}
use Rattle.printed_files.specs.Right.{TypesHaveNoOffsets}
use Rattle.printed_files.proofs.Sieved.{sieved, Same, same_ok, same_then, is_high, some_same, some_none}
use Rattle.printed_files.proofs.TypesSame.{type_same, all_low, walk_all_same}

abbrev self : {A : Type 0} → A → A
self x = x

-- ---- lists

each_same : {X Y : Type 0} (b : X → X) (f : X → List Y) → ((x : X) → f x ≡ f (b x)) → (xs : List X) → each f xs ≡ each f (map b xs)
each_same b f h [] = refl
each_same b f h (x ∷ xs) = ap₂ (λ u v. u ++ v) (h x) (each_same b f h xs)

map-append : {X Y : Type 0} (f : X → Y) (xs ys : List X) → map f (xs ++ ys) ≡ map f xs ++ map f ys
map-append f [] ys = refl
map-append f (x ∷ xs) ys = ap (λ zs. f x ∷ zs) (map-append f xs ys)

each_moved : {X Y : Type 0} (b : X → X) (c : Y → Y) (f : X → List Y) → ((x : X) → f (b x) ≡ map c (f x)) → (xs : List X) → each f (map b xs) ≡ map c (each f xs)
each_moved b c f h [] = refl
each_moved b c f h (x ∷ xs) = ap₂ (λ u v. u ++ v) (h x) (each_moved b c f h xs) ∙ sym (map-append c (f x) (each f xs))

-- ---- what is declared

fields_same : (fs : List (RawField Link)) → map field fs ≡ map field (map bare_field fs)
fields_same [] = refl
fields_same (f ∷ fs) = λ i. (f.name.name, type_same f.ty i) ∷ fields_same fs i

records_same : (x : RawItem Link) → record_of x ≡ record_of (bare_item x)
records_same (fields at i fs) = ap (λ f. f ∷ []) (fields_same fs)
records_same (init at i p) = refl
records_same (period at i ms p d) = refl
records_same (signal at i t p d) = refl
records_same (channel at i t) = refl
records_same (output at i u) = refl
records_same (monitor at i ps) = refl

names_same : (x : RawItem Link) → record_name_of x ≡ record_name_of (bare_item x)
names_same (fields at i fs) = refl
names_same (init at i p) = refl
names_same (period at i ms p d) = refl
names_same (signal at i t p d) = refl
names_same (channel at i t) = refl
names_same (output at i u) = refl
names_same (monitor at i ps) = refl

sources_same : (x : RawItem Link) → source_of x ≡ source_of (bare_item x)
sources_same (fields at i fs) = refl
sources_same (init at i p) = refl
sources_same (period at i ms p d) = refl
sources_same (signal at i t p d) = ap (λ m. record { name = i.name; kind = kind.Signal; priority = p; message = m; depth = d } ∷ []) (type_same t)
sources_same (channel at i t) = refl
sources_same (output at i u) = refl
sources_same (monitor at i ps) = refl

channels_same : (x : RawItem Link) → channel_of x ≡ channel_of (bare_item x)
channels_same (fields at i fs) = refl
channels_same (init at i p) = refl
channels_same (period at i ms p d) = refl
channels_same (signal at i t p d) = refl
channels_same (channel at i t) = ap (λ m. record { name = i.name; message = m } ∷ []) (type_same t)
channels_same (output at i u) = refl
channels_same (monitor at i ps) = refl

outputs_same : (x : RawItem Link) → output_of x ≡ output_of (bare_item x)
outputs_same (fields at i fs) = refl
outputs_same (init at i p) = refl
outputs_same (period at i ms p d) = refl
outputs_same (signal at i t p d) = refl
outputs_same (channel at i t) = refl
outputs_same (output at i u) = refl
outputs_same (monitor at i ps) = refl

state_same : (p : RawPart Link) → state_of p ≡ state_of (bare_part p)
state_same (state at i t) = ap (λ m. (i.name, m) ∷ []) (type_same t)
state_same (handler at i u hs) = refl

monitors_same : (x : RawItem Link) → monitor_of x ≡ monitor_of (bare_item x)
monitors_same (fields at i fs) = refl
monitors_same (init at i p) = refl
monitors_same (period at i ms p d) = refl
monitors_same (signal at i t p d) = refl
monitors_same (channel at i t) = refl
monitors_same (output at i u) = refl
monitors_same (monitor at i ps) = ap (λ s. record { name = i.name; states = s } ∷ []) (each_same bare_part state_of state_same ps)

part_listeners_same : (h : ℕ) (ps : List (RawPart Link)) → part_listeners h ps ≡ part_listeners h (map bare_part ps)
part_listeners_same h [] = refl
part_listeners_same h (state at i t ∷ ps) = part_listeners_same h ps
part_listeners_same h (handler at i u hs ∷ ps) = ap (λ ls. to.Handler h ∷ ls) (part_listeners_same (h + 1) ps)

counted_same : (ps : List (RawPart Link)) → handlers_in ps ≡ handlers_in (map bare_part ps)
counted_same [] = refl
counted_same (state at i t ∷ ps) = counted_same ps
counted_same (handler at i u hs ∷ ps) = ap (λ n. n + 1) (counted_same ps)

listeners_same : (o h : ℕ) (xs : List (RawItem Link)) → listeners o h xs ≡ listeners o h (map bare_item xs)
listeners_same o h [] = refl
listeners_same o h (fields at i fs ∷ xs) = listeners_same o h xs
listeners_same o h (init at i p ∷ xs) = listeners_same o h xs
listeners_same o h (period at i ms p d ∷ xs) = listeners_same o h xs
listeners_same o h (signal at i t p d ∷ xs) = listeners_same o h xs
listeners_same o h (channel at i t ∷ xs) = listeners_same o h xs
listeners_same o h (output at i u ∷ xs) = ap (λ ls. to.Output o ∷ ls) (listeners_same (o + 1) h xs)
listeners_same o h (monitor at i ps ∷ xs) =
    ap₂ (λ ls ms. ls ++ ms) (part_listeners_same h ps) (listeners_same o (h + handlers_in ps) xs ∙ ap (λ n. listeners o (h + n) (map bare_item xs)) (counted_same ps))

pub outline_same : (t : Raw Link) → outline t ≡ outline (bare_raw t)
outline_same t = λ i. record {
  version = t.version;
  name = t.name.name;
  records = each_same bare_item record_of records_same t.items i;
  record_names = each_same bare_item record_name_of names_same t.items i;
  sources = each_same bare_item source_of sources_same t.items i;
  channels = each_same bare_item channel_of channels_same t.items i;
  outputs = each_same bare_item output_of outputs_same t.items i;
  monitors = each_same bare_item monitor_of monitors_same t.items i;
  handlers = [];
  listeners = listeners_same 0 0 t.items i;
}

-- ---- its handlers

written_moved : (m : ℕ) (p : RawPart Link) → written_of m (bare_part p) ≡ map bare_written (written_of m p)
written_moved m (state at i t) = refl
written_moved m (handler at i u hs) = refl

handlers_moved : (m : ℕ) (xs : List (RawItem Link)) → handlers_from m (map bare_item xs) ≡ map bare_written (handlers_from m xs)
handlers_moved m [] = refl
handlers_moved m (fields at i fs ∷ xs) = handlers_moved m xs
handlers_moved m (init at i p ∷ xs) = handlers_moved m xs
handlers_moved m (period at i ms p d ∷ xs) = handlers_moved m xs
handlers_moved m (signal at i t p d ∷ xs) = handlers_moved m xs
handlers_moved m (channel at i t ∷ xs) = handlers_moved m xs
handlers_moved m (output at i u ∷ xs) = handlers_moved m xs
handlers_moved m (monitor at i ps ∷ xs) =
    ap₂ (λ u v. u ++ v) (each_moved bare_part bare_written (written_of m) (written_moved m) ps) (handlers_moved (m + 1) xs)
    ∙ sym (map-append bare_written (each (written_of m) ps) (handlers_from (m + 1) xs))

emitter_same : (p : RawHpart Link) → emitter_of p ≡ emitter_of (bare_hpart p)
emitter_same (emitter at i u n) = refl
emitter_same (callback at i ss) = refl

abbrev bare_callback : Id × RawStmts Link → Id × RawStmts Link
bare_callback c = (bare_id c.0, bare_stmts c.1)

callback_moved : (p : RawHpart Link) → callback_of (bare_hpart p) ≡ map bare_callback (callback_of p)
callback_moved (emitter at i u n) = refl
callback_moved (callback at i ss) = refl

finished_same : (c d : Option High) (x y : Body) → is_high c ≡ is_high d → x ≡ y → Same self (finished c x) (finished d y)
finished_same None None x y h e = same_ok self x y e
finished_same None (Some d) x y h e = absurd (cc)
finished_same (Some c) None x y h e = absurd (cc)
finished_same (Some c) (Some d) x y h e = record { is = refl }

body_same : (γ : Known) (c : Id × RawStmts Link) → Same self (bodied γ c) (bodied γ (bare_callback c))
body_same γ c = same_then all_low self (walked_all γ c.1) (walked_all γ (bare_stmts c.1)) _ _ (walk_all_same γ c.1) (λ r q k.
    finished_same r.high q.high _ _ (ap (λ l. l.high) k) (λ j. record { param = c.0.name; binders = (k j).binders; stmts = stmts_of ((k j).trees) }))

turn_same : {X Y : Type 0} (b : X → X) (f g : X → Result Y TypeFault) → ((x : X) → Same self (f x) (g (b x))) → (xs : List X) → Same self (in_turn f xs) (in_turn g (map b xs))
turn_same b f g h [] = record { is = refl }
turn_same b f g h (x ∷ xs) =
    same_then self self (f x) (g (b x)) _ _ (h x) (λ y z e.
    same_then self self (in_turn f xs) (in_turn g (map b xs)) _ _ (turn_same b f g h xs) (λ ys zs k. same_ok self _ _ (ap₂ (λ u us. u ∷ us) e k)))

module _ (arch : Arch) (w : Written) where
  known_same : known_in arch w ≡ known_in arch (bare_written w)
  known_same = ap (λ es. record {
    names = arch.record_names;
    records = arch.records;
    message = Rattle.arch_types.specs.File.message_on arch (on_of w.on.target);
    states = Rattle.tower_syntax.specs.Weights.states_of arch w.monitor;
    emitters = messages arch es;
    binders = [];
    writable = [];
  }) (each_same bare_hpart emitter_of emitter_same w.parts)

  bodies_same : Same self (in_turn (bodied (known_in arch w)) (each callback_of w.parts)) (in_turn (bodied (known_in arch (bare_written w))) (each callback_of (map bare_hpart w.parts)))
  bodies_same =
      subst (λ cs. Same self (in_turn (bodied (known_in arch w)) (each callback_of w.parts)) (in_turn (bodied (known_in arch (bare_written w))) cs)) (sym (each_moved bare_hpart bare_callback callback_of callback_moved w.parts))
      (subst (λ γ. Same self (in_turn (bodied (known_in arch w)) (each callback_of w.parts)) (in_turn (bodied γ) (map bare_callback (each callback_of w.parts)))) known_same
      (turn_same bare_callback (bodied (known_in arch w)) (bodied (known_in arch w)) (body_same (known_in arch w)) (each callback_of w.parts)))

  handled_same : Same self (handled arch w) (handled arch (bare_written w))
  handled_same = same_then self self (in_turn (bodied (known_in arch w)) (each callback_of w.parts)) (in_turn (bodied (known_in arch (bare_written w))) (each callback_of (map bare_hpart w.parts))) _ _ bodies_same (λ bs cs e. same_ok self _ _ (λ j. record {
    name = w.name.name;
    monitor = w.monitor;
    on = on_of w.on.target;
    emitters = each_same bare_hpart emitter_of emitter_same w.parts j;
    callbacks = e j;
  }))

file_same : (t : Raw Link) → Same self (in_turn (handled (outline t)) (handlers_of t)) (in_turn (handled (outline (bare_raw t))) (handlers_of (bare_raw t)))
file_same t =
    subst (λ ws. Same self (in_turn (handled (outline t)) (handlers_of t)) (in_turn (handled (outline (bare_raw t))) ws)) (sym (handlers_moved 0 t.items))
    (subst (λ a. Same self (in_turn (handled (outline t)) (handlers_of t)) (in_turn (handled a) (map bare_written (handlers_of t)))) (outline_same t)
    (turn_same bare_written (handled (outline t)) (handled (outline t)) (handled_same (outline t)) (handlers_of t)))

made_ok : {A : Type 0} (r : Result A TypeFault) (x : A) → sieved self r ≡ Some x → r ≡ Ok x
made_ok (Ok y) x h = ap Ok (some_same h)
made_ok (Err f) x h = absurd (some_none (sym h))

pub types_have_no_offsets : TypesHaveNoOffsets
types_have_no_offsets t u hs e h =
    made_ok (in_turn (handled (outline u)) (handlers_of u)) hs
    ((file_same u).is ∙ (λ i. sieved self (in_turn (handled (outline (sym e i))) (handlers_of (sym e i)))) ∙ sym ((file_same t).is) ∙ ap (sieved self) h)
