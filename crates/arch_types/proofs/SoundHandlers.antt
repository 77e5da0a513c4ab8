-- A handler of the checked tree is well numbered and typed.
use Rattle.std.proofs.Common.{◌≡◌, ℕ, zero, suc, ◌+◌, ◌^◌, ◌<◌, ◌≤◌, List, [], ◌∷◌, length, map, slice_get, slice_index_or, Some, All, refl, ap, sym, subst, ◌∙◌, arith, append-nil}
use Rattle.std.specs.Option.{option_map}
use Rattle.std.proofs.lemmas.List.{length-map}
use Rattle.std.proofs.lemmas.List.Elements.{All-nil, All-cons, All-head, All-tail, All-weaker}
use Rattle.std.proofs.lemmas.Option.{same_Some}
use Rattle.tower_types.specs.declared.scalar.Scalar.TheVariants as is
use Rattle.tower_types.specs.Ty.{Ty, Name, Fields, scalar, shape_in, table_of}
use Rattle.tower_syntax.specs.declared.named.Target.{Target}
use Rattle.tower_syntax.specs.declared.named.Target.TheVariants as target
use Rattle.tower_syntax.specs.declared.arch.On.{On}
use Rattle.tower_syntax.specs.RawTree.{Id, Link, Raw, RawStmts, RawHpart, emitter, callback}
use Rattle.tower_syntax.specs.Arch.{Arch, Emitter, Body, Handler}
use Rattle.tower_syntax.specs.WellNumbered.{IsNumberedOn, IsNumberedBody, IsNumberedHandler, counts_of}
use Rattle.tower_syntax.specs.Weights.{states_of, shape_at, channel_message, message_on, scope_of}
use Rattle.tower_syntax.specs.Typed.{no_names, AreTypedStmts, AreProperFields, IsProperType, IsTypedHandler}
use Rattle.arch_types.specs.Outline.{each, outline, with_handlers, Written, on_of, emitter_of, callback_of}
use Rattle.arch_types.specs.File.{entry, IsBody, AreBodies, AreHandlers}
use Rattle.arch_types.specs.File as file
use Rattle.arch_types.specs.Numbered.{Counts, IsSeen, SeesAll, nested_all, bound_by_all, IsChannel, IsHeard, IsPartOf, IsNumbered}
use Rattle.arch_types.specs.Numbered as numbered
use Rattle.arch_types.specs.Scalars.{AreProperStmts}
use Rattle.arch_types.proofs.SoundTypes.{Declared, AreDeclared, AreFormed, numbered_fields, shaped, proper}
use Rattle.arch_types.proofs.SoundFile.{IsShortRecord, IsSource, records_are, sources_are, channels_are, monitors_are, channel_below}
use Rattle.arch_types.proofs.SoundExprs.{Setting, field_type, type_in, Knows}
use Rattle.arch_types.proofs.SoundStmts.{Sits, all_names, all_typed}
use Rattle.arch_types.proofs.SoundHeights.{all_high, all_numbered}

-- ---- lists

at_mapped : {X Y : Type 0} (f : X → Y) (P : Y → Type 0) (xs : List X) (k : ℕ) (d : Y) → All (λ x. P (f x)) xs → k < length xs → P (slice_index_or (map f xs) k d)
at_mapped f P [] k d h lt = absurd (omega arith)
at_mapped f P (x ∷ xs) zero d h lt = All-head (λ y. P (f y)) x xs h
at_mapped f P (x ∷ xs) (suc k) d h lt = at_mapped f P xs k d (All-tail (λ y. P (f y)) x xs h) (omega arith)

-- where there is an element, it does not matter what stands for none
either_default : {X Y : Type 0} (f : X → Y) (xs : List X) (k : ℕ) (d e : Y) → k < length xs → slice_index_or (map f xs) k d ≡ slice_index_or (map f xs) k e
either_default f [] k d e lt = absurd (omega arith)
either_default f (x ∷ xs) zero d e lt = refl
either_default f (x ∷ xs) (suc k) d e lt = either_default f xs k d e (omega arith)

state_known : (n : ℕ) (fs : Fields) (k : ℕ) (t : Ty) → AreDeclared n fs → k < length fs → option_map (λ f. f.1) (slice_get fs k) ≡ Some t → (t ≡ field_type fs k) × Declared n t
state_known n [] k t d lt e = absurd (omega arith)
state_known n (f ∷ fs) zero t d lt e =
    let same = same_Some f.1 t e in
    (sym same, subst (Declared n) same (All-head (λ g. Declared n g.1) f fs d))
state_known n (f ∷ fs) (suc k) t d lt e = state_known n fs k t (All-tail (λ g. Declared n g.1) f fs d) (omega arith) e

-- ---- the file around a handler

module _ (raw : Raw Link) (all_handlers : List Handler) (n : IsNumbered raw) where
  abbrev outlined : Arch
  outlined = outline raw

  abbrev arch : Arch
  arch = with_handlers (outline raw) all_handlers

  abbrev known : ℕ
  known = length (outlined).records

  short : (r : ℕ) (fs : Fields) → slice_get (outlined).records r ≡ Some fs → IsShortRecord r fs
  short r fs e = let none : 0 + r ≡ r = omega arith in subst (λ k. IsShortRecord k fs) none (records_are (outlined) raw.version 0 raw.items n.items r fs e)

  pub formed : AreFormed (outline raw).records
  formed = record { declared = λ r fs e. (short r fs e).0; few = λ r fs e. (short r fs e).1 }

  source_declared : (s : ℕ) (d : Ty) → s < length (outlined).sources → Declared known (slice_index_or (map (λ x. x.message) (outlined).sources) s d)
  source_declared s d lt =
      at_mapped (λ x. x.message) (Declared known) (outlined).sources s d
      (All-weaker (IsSource known raw.version) (λ x. Declared known x.message) (λ x h. h.message) (outlined).sources (sources_are (outlined) raw.version 0 raw.items n.items)) lt

  channel_declared : (c : ℕ) (d : Ty) → c < length (outlined).channels → Declared known (slice_index_or (map (λ x. x.message) (outlined).channels) c d)
  channel_declared c d lt = at_mapped (λ x. x.message) (Declared known) (outlined).channels c d (channels_are (outlined) raw.version 0 raw.items n.items) lt

  states_short : (m : ℕ) → m < length (outlined).monitors → IsShortRecord known (states_of (outlined) m)
  states_short m lt = at_mapped (λ x. x.states) (IsShortRecord known) (outlined).monitors m [] (monitors_are (outlined) raw.version 0 raw.items n.items) lt

  record Hears (x : Target) : Type 0 where
    pub same : file.message_on outlined (on_of x) ≡ message_on arch (on_of x)
    pub declared : Declared known (message_on arch (on_of x))
    pub there : IsNumberedOn arch (on_of x)

  hears : (x : Target) → IsHeard outlined x → Hears x
  hears (target.Source s) lt = record {
    same = either_default (λ x. x.message) (outlined).sources s _ _ lt;
    declared = source_declared s _ lt;
    there = lt;
  }
  hears (target.Channel c) lt = record {
    same = either_default (λ x. x.message) (outlined).channels c _ _ lt;
    declared = channel_declared c _ lt;
    there = lt;
  }
  hears target.Param h = absurd h
  hears (target.Binder b) h = absurd h
  hears (target.State k) h = absurd h
  hears (target.Record r) h = absurd h
  hears (target.Emitter k) h = absurd h

  abbrev IsOnChannel : Emitter → Type 0
  IsOnChannel e = e.channel < length (outlined).channels

  emitted : (es : List Emitter) (k : ℕ) → All IsOnChannel es → k < length es
      → shape_at (map (λ e. shape_in (table_of (arch).records) (channel_message arch e.channel)) es) k ≡ shaped (outlined).records (slice_index_or (file.messages outlined es) k (scalar is.Bool))
  emitted [] k h lt = absurd (omega arith)
  emitted (e ∷ es) zero h lt = ap (shaped (outlined).records) (either_default (λ x. x.message) (outlined).channels e.channel _ _ (All-head IsOnChannel e es h))
  emitted (e ∷ es) (suc k) h lt = emitted es k (All-tail IsOnChannel e es h) (omega arith)

  parts_on : (c : Counts) (hs : List (RawHpart Link)) → All (IsPartOf outlined c) hs → All (λ e. e.channel < length (outline raw).channels) (each emitter_of hs)
  parts_on c [] h = All-nil IsOnChannel
  parts_on c (emitter at i u m ∷ hs) h =
      All-cons IsOnChannel _ (each emitter_of hs) (channel_below outlined u.target (All-head (IsPartOf outlined c) (emitter at i u m) hs h))
      (parts_on c hs (All-tail (IsPartOf outlined c) (emitter at i u m) hs h))
  parts_on c (callback at i ss ∷ hs) h = parts_on c hs (All-tail (IsPartOf outlined c) (callback at i ss) hs h)

  -- ---- a handler

  module _ (w : Written) (H : numbered.IsHandler (outline raw) w) (in_monitor : w.monitor < length (outline raw).monitors) (name : Name) (bodies : List Body) where
    abbrev pub as_handler : Handler
    as_handler = record { name = name; monitor = w.monitor; on = on_of w.on.target; emitters = each emitter_of w.parts; callbacks = bodies }

    abbrev pub counts : Counts
    counts = record {
      records = length (outlined).records;
      states = length (states_of outlined w.monitor);
      emitters = length (each emitter_of w.parts);
      names = no_names;
      bound = 0;
    }

    abbrev pub setting : Body → Setting
    setting b = record {
      records = (outlined).records;
      message = message_on arch (on_of w.on.target);
      states = states_of outlined w.monitor;
      emitters = map (λ e. shape_in (table_of (arch).records) (channel_message arch e.channel)) (each emitter_of w.parts);
      binders = b.binders;
    }

    on_channels : All IsOnChannel (each emitter_of w.parts)
    on_channels = parts_on counts w.parts H.parts

    name_known : (b : Body) (x : Target) (t : Ty) → IsSeen counts x → (entry outlined w).has x t → (t ≡ type_in (setting b) x) × Declared known t
    name_known b target.Param t seen e =
        let h = hears w.on.target H.on in
        (e ∙ h.same, subst (Declared known) (sym (e ∙ h.same)) h.declared)
    name_known b (target.State k) t lt e = state_known known (states_of outlined w.monitor) k t (states_short w.monitor in_monitor).0 lt e
    name_known b (target.Binder k) t seen e = absurd seen
    name_known b (target.Record r) t seen e = absurd seen
    name_known b (target.Source s) t seen e = absurd seen
    name_known b (target.Channel k) t seen e = absurd seen
    name_known b (target.Emitter k) t seen e = absurd seen

    pub knows : (b : Body) → Knows (setting b) (entry outlined w) counts
    knows b = record {
      same_records = refl;
      all_records = refl;
      all_states = refl;
      all_emitters = sym (length-map (each emitter_of w.parts) (λ e. shape_in (table_of (arch).records) (channel_message arch e.channel)));
      messages = λ k lt. emitted (each emitter_of w.parts) k on_channels lt;
      known = name_known b;
      inside = λ k h. absurd h;
      writes = λ k h. absurd h;
      no_message = refl;
      fresh = λ k le. refl;
      bound = refl;
    }

    pub record IsFine (c : Id × RawStmts Link) : Type 0 where
      pub sees : SeesAll counts c.1
      pub low : nested_all c.1 ≤ 256
      pub few : bound_by_all c.1 ≤ 2 ^ 32

    pub record IsGood (b : Body) : Type 0 where
      pub numbered : IsNumberedBody arch as_handler b
      pub names : AreProperFields arch b.binders
      pub typed : AreTypedStmts (scope_of arch as_handler b) no_names b.stmts
      pub proper : AreProperStmts b.stmts

    good : (c : Id × RawStmts Link) (b : Body) → IsFine c → IsBody (entry outlined w) c b → IsGood b
    good c b f h =
        let K = knows b in
        let whole : Sits (setting b) 0 b.binders = record { before = []; behind = []; long = refl; is = sym (append-nil b.binders) } in
        let t = all_typed (setting b) formed (entry outlined w) counts K c.1 b.binders b.stmts f.sees h.1 whole in
        let count = all_names (entry outlined w) c.1 b.binders b.stmts h.1 in
        let heights = all_high (entry outlined w) c.1 b.binders b.stmts h.1 in
        record {
          numbered = record {
            binders = numbered_fields known b.binders (omega (arith, count, f.few)) t.declared;
            stmts = all_numbered (scope_of arch as_handler b) (counts_of arch as_handler b) (length-map b.binders _) (length-map (states_of arch w.monitor) _) (length-map (each emitter_of w.parts) _) no_names b.stmts t.typed;
            shallow = omega (arith, heights, f.low);
          };
          names = All-weaker (λ g. Declared known g.1) (λ g. IsProperType arch g.1) (λ g. proper (outlined).records formed g.1) b.binders t.declared;
          typed = t.typed;
          proper = t.proper;
        }

    all_good : (cs : List (Id × RawStmts Link)) (bs : List Body) → All IsFine cs → AreBodies (entry outlined w) cs bs → All IsGood bs
    all_good [] [] f h = All-nil IsGood
    all_good [] (b ∷ bs) f h = absurd h
    all_good (c ∷ cs) [] f h = absurd h
    all_good (c ∷ cs) (b ∷ bs) f h = All-cons IsGood b bs (good c b (All-head IsFine c cs f) h.0) (all_good cs bs (All-tail IsFine c cs f) h.1)

    pub all_fine : (hs : List (RawHpart Link)) → All (IsPartOf outlined counts) hs → All IsFine (each callback_of hs)
    all_fine [] h = All-nil IsFine
    all_fine (emitter at i u m ∷ hs) h = all_fine hs (All-tail (IsPartOf outlined counts) (emitter at i u m) hs h)
    all_fine (callback at i ss ∷ hs) h =
        let p = All-head (IsPartOf outlined counts) (callback at i ss) hs h in
        All-cons IsFine (i, ss) (each callback_of hs) (record { sees = p.0; low = p.1; few = p.2 }) (all_fine hs (All-tail (IsPartOf outlined counts) (callback at i ss) hs h))

    pub handler_is : AreBodies (entry (outline raw) w) (each callback_of w.parts) bodies → IsNumberedHandler (with_handlers (outline raw) all_handlers) as_handler × IsTypedHandler (with_handlers (outline raw) all_handlers) as_handler × All (λ b. AreProperStmts b.stmts) bodies
    handler_is h =
        let g = all_good (each callback_of w.parts) bodies (all_fine w.parts H.parts) h in (
          record {
            monitor = in_monitor;
            on = (hears w.on.target H.on).there;
            few = H.few;
            emitters = on_channels;
            callbacks = All-weaker IsGood (IsNumberedBody arch as_handler) (λ b x. x.numbered) bodies g;
          },
          record {
            names = All-weaker IsGood (λ b. AreProperFields arch b.binders) (λ b x. x.names) bodies g;
            callbacks = All-weaker IsGood (λ b. AreTypedStmts (scope_of arch as_handler b) no_names b.stmts) (λ b x. x.typed) bodies g;
          },
          All-weaker IsGood (λ b. AreProperStmts b.stmts) (λ b x. x.proper) bodies g,
        )

  -- ---- all handlers

  pub record IsRight (h : Handler) : Type 0 where
    pub numbered : IsNumberedHandler (with_handlers (outline raw) all_handlers) h
    pub typed : IsTypedHandler (with_handlers (outline raw) all_handlers) h
    pub proper : All (λ b. AreProperStmts b.stmts) h.callbacks

  abbrev with_parts : Name → List Body → ℕ → On → List Emitter → Handler
  with_parts name bodies m o es = record { name = name; monitor = m; on = o; emitters = es; callbacks = bodies }

  right : (w : Written) (h : Handler) → numbered.IsHandler outlined w → w.monitor < length (outlined).monitors → file.IsHandler outlined w h → IsRight h
  right w h H lt f =
      let base = handler_is w H lt h.name h.callbacks f.callbacks in
      let made : IsRight (with_parts h.name h.callbacks w.monitor (on_of w.on.target) (each emitter_of w.parts)) = record { numbered = base.0; typed = base.1; proper = base.2 } in
      subst (λ es. IsRight (with_parts h.name h.callbacks h.monitor h.on es)) (sym f.emitters)
      (subst (λ o. IsRight (with_parts h.name h.callbacks h.monitor o (each emitter_of w.parts))) (sym f.on)
      (subst (λ m. IsRight (with_parts h.name h.callbacks m (on_of w.on.target) (each emitter_of w.parts))) (sym f.monitor) made))

  abbrev InMonitor : Written → Type 0
  InMonitor w = w.monitor < length (outline raw).monitors

  pub all_right : (ws : List Written) (hs : List Handler) → All (numbered.IsHandler (outline raw)) ws → All (λ w. w.monitor < length (outline raw).monitors) ws → AreHandlers (outline raw) ws hs → All IsRight hs
  all_right [] [] H lt f = All-nil IsRight
  all_right [] (h ∷ hs) H lt f = absurd f
  all_right (w ∷ ws) [] H lt f = absurd f
  all_right (w ∷ ws) (h ∷ hs) H lt f =
      All-cons IsRight h hs (right w h (All-head (numbered.IsHandler outlined) w ws H) (All-head InMonitor w ws lt) f.0)
      (all_right ws hs (All-tail (numbered.IsHandler outlined) w ws H) (All-tail InMonitor w ws lt) f.1)
