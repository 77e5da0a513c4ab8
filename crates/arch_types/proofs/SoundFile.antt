-- What a file declares: its types, its numbers, and how many of each kind there are.
use Rattle.std.proofs.Common.{◌≡◌, ℕ, zero, suc, ◌+◌, ◌^◌, ◌<◌, ◌≤◌, List, [], ◌∷◌, ◌++◌, length, map, slice_get, Some, All, is_some, refl, ap, sym, subst, ◌∙◌, arith}
use Rattle.std.proofs.lemmas.List.{length-append, length-map}
use Rattle.std.proofs.lemmas.List.Elements.{All-nil, All-cons, All-head, All-tail, All-append}
use Rattle.std.proofs.lemmas.Option.{same_Some, none-some}
use Rattle.tower_types.specs.declared.scalar.Scalar.TheVariants.{I64}
use Rattle.tower_types.specs.Ty.{Fields, scalar}
use Rattle.tower_syntax.specs.declared.named.Target.{Target}
use Rattle.tower_syntax.specs.declared.named.Target.TheVariants as target
use Rattle.tower_syntax.specs.declared.arch.SourceKind.{SourceKind}
use Rattle.tower_syntax.specs.declared.arch.SourceKind.TheVariants as kind
use Rattle.tower_syntax.specs.declared.arch.Listener.{Listener}
use Rattle.tower_syntax.specs.RawTree.{Link, RawField, RawPart, state, handler, RawItem, fields, init, period, signal, channel, output, monitor}
use Rattle.tower_syntax.specs.Arch.{Arch, Source, Channel, Output, Monitor}
use Rattle.tower_syntax.specs.Graph.{numbers_before}
use Rattle.tower_syntax.specs.WellNumbered.{has_depth, outputs_among, handlers_among}
use Rattle.arch_types.specs.Outline.{each, field, record_of, record_name_of, source_of, channel_of, channel_number, output_of, state_of, monitor_of, part_listeners, handlers_in, listeners, Written, written_of, handlers_from}
use Rattle.arch_types.specs.Numbered.{IsDeclaredType, IsChannel, IsState, AreItems}
use Rattle.arch_types.proofs.SoundTypes.{Declared, declared, AreDeclared}

-- ---- how many there are

each_few : {X Y : Type 0} (of : X → List Y) → ((x : X) → length (of x) ≤ 1) → (xs : List X) → length (each of xs) ≤ length xs
each_few of one [] = omega arith
each_few of one (x ∷ xs) = omega (arith, one x, each_few of one xs, length-append (of x) (each of xs))

module _ (items : List (RawItem Link)) where
  pub few_records : length (each record_of items) ≤ length items
  few_records = each_few record_of one items
    where
      one : (x : RawItem Link) → length (record_of x) ≤ 1
      one (fields at i fs) = omega arith
      one (init at i p) = omega arith
      one (period at i ms p d) = omega arith
      one (signal at i t p d) = omega arith
      one (channel at i t) = omega arith
      one (output at i u) = omega arith
      one (monitor at i ps) = omega arith

  pub few_sources : length (each source_of items) ≤ length items
  few_sources = each_few source_of one items
    where
      one : (x : RawItem Link) → length (source_of x) ≤ 1
      one (fields at i fs) = omega arith
      one (init at i p) = omega arith
      one (period at i ms p d) = omega arith
      one (signal at i t p d) = omega arith
      one (channel at i t) = omega arith
      one (output at i u) = omega arith
      one (monitor at i ps) = omega arith

  pub few_channels : length (each channel_of items) ≤ length items
  few_channels = each_few channel_of one items
    where
      one : (x : RawItem Link) → length (channel_of x) ≤ 1
      one (fields at i fs) = omega arith
      one (init at i p) = omega arith
      one (period at i ms p d) = omega arith
      one (signal at i t p d) = omega arith
      one (channel at i t) = omega arith
      one (output at i u) = omega arith
      one (monitor at i ps) = omega arith

  pub few_outputs : length (each output_of items) ≤ length items
  few_outputs = each_few output_of one items
    where
      one : (x : RawItem Link) → length (output_of x) ≤ 1
      one (fields at i fs) = omega arith
      one (init at i p) = omega arith
      one (period at i ms p d) = omega arith
      one (signal at i t p d) = omega arith
      one (channel at i t) = omega arith
      one (output at i u) = omega arith
      one (monitor at i ps) = omega arith

  pub few_monitors : length (each monitor_of items) ≤ length items
  few_monitors = each_few monitor_of one items
    where
      one : (x : RawItem Link) → length (monitor_of x) ≤ 1
      one (fields at i fs) = omega arith
      one (init at i p) = omega arith
      one (period at i ms p d) = omega arith
      one (signal at i t p d) = omega arith
      one (channel at i t) = omega arith
      one (output at i u) = omega arith
      one (monitor at i ps) = omega arith

pub names_of_records : (items : List (RawItem Link)) → length (each record_name_of items) ≡ length (each record_of items)
names_of_records [] = refl
names_of_records (fields at i fs ∷ items) = ap suc (names_of_records items)
names_of_records (init at i p ∷ items) = names_of_records items
names_of_records (period at i ms p d ∷ items) = names_of_records items
names_of_records (signal at i t p d ∷ items) = names_of_records items
names_of_records (channel at i t ∷ items) = names_of_records items
names_of_records (output at i u ∷ items) = names_of_records items
names_of_records (monitor at i ps ∷ items) = names_of_records items

-- ---- types and numbers

fields_declared : (n : ℕ) (fs : List (RawField Link)) → All (λ f. IsDeclaredType n f.ty) fs → AreDeclared n (map field fs)
fields_declared n [] h = All-nil (λ g. Declared n g.1)
fields_declared n (f ∷ fs) h =
    All-cons (λ g. Declared n g.1) (field f) (map field fs) (declared n f.ty (All-head (λ g. IsDeclaredType n g.ty) f fs h))
    (fields_declared n fs (All-tail (λ g. IsDeclaredType n g.ty) f fs h))

states_declared : (n : ℕ) (ps : List (RawPart Link)) → All (IsState n) ps → AreDeclared n (each state_of ps)
states_declared n [] h = All-nil (λ g. Declared n g.1)
states_declared n (state at i t ∷ ps) h =
    All-cons (λ g. Declared n g.1) _ (each state_of ps) (declared n t (All-head (IsState n) (state at i t) ps h))
    (states_declared n ps (All-tail (IsState n) (state at i t) ps h))
states_declared n (handler at i u hs ∷ ps) h = states_declared n ps (All-tail (IsState n) (handler at i u hs) ps h)

few_states : (ps : List (RawPart Link)) → length (each state_of ps) ≤ length ps
few_states ps = each_few state_of one ps
  where
    one : (p : RawPart Link) → length (state_of p) ≤ 1
    one (state at i t) = omega arith
    one (handler at i u hs) = omega arith

abbrev pub IsShortRecord : ℕ → Fields → Type 0
IsShortRecord n fs = AreDeclared n fs × (length fs ≤ 2 ^ 32)

-- the message of an initialisation or a period is an i64
abbrev pub HasMessage : Source → SourceKind → Type 0
HasMessage s kind.Init = s.message ≡ scalar I64
HasMessage s (kind.Period ms) = (s.message ≡ scalar I64) × (0 < ms)
HasMessage s kind.Signal = Unit {0}

pub record IsSource (n version : ℕ) (s : Source) : Type 0 where
  pub message : Declared n s.message
  pub depth : is_some s.depth ≡ has_depth version s.kind
  pub kind : HasMessage s s.kind

abbrev number_type : (n : ℕ) → Declared n (scalar I64)
number_type n = record { written = tt; low = omega arith }

pub channel_below : (arch : Arch) (x : Target) → IsChannel arch x → channel_number x < length arch.channels
channel_below arch (target.Channel c) h = h
channel_below arch target.Param h = absurd h
channel_below arch (target.Binder b) h = absurd h
channel_below arch (target.State k) h = absurd h
channel_below arch (target.Source s) h = absurd h
channel_below arch (target.Record r) h = absurd h
channel_below arch (target.Emitter k) h = absurd h

module _ (arch : Arch) (version : ℕ) where
  pub records_are : (before : ℕ) (items : List (RawItem Link)) → AreItems arch version before items → (r : ℕ) (fs : Fields) → slice_get (each record_of items) r ≡ Some fs → IsShortRecord (before + r) fs
  records_are before [] h r fs e = absurd (none-some fs e)
  records_are before (fields at i gs ∷ items) h zero fs e =
      let here : before ≡ before + 0 = omega arith in
      subst (IsShortRecord (before + 0)) (same_Some (map field gs) fs e)
      (subst (λ n. IsShortRecord n (map field gs)) here (fields_declared before gs h.0, let l = length-map gs field in omega (arith, h.1)))
  records_are before (fields at i gs ∷ items) h (suc r) fs e =
      let there : suc before + r ≡ before + suc r = omega arith in
      subst (λ n. IsShortRecord n fs) there (records_are (suc before) items h.2 r fs e)
  records_are before (init at i p ∷ items) h r fs e = records_are before items h r fs e
  records_are before (period at i ms p d ∷ items) h r fs e = records_are before items h.2 r fs e
  records_are before (signal at i t p d ∷ items) h r fs e = records_are before items h.2 r fs e
  records_are before (channel at i t ∷ items) h r fs e = records_are before items h.1 r fs e
  records_are before (output at i u ∷ items) h r fs e = records_are before items h.1 r fs e
  records_are before (monitor at i ps ∷ items) h r fs e = records_are before items h.2 r fs e

  abbrev known : ℕ
  known = length arch.records

  pub sources_are : (before : ℕ) (items : List (RawItem Link)) → AreItems arch version before items → All (IsSource (length arch.records) version) (each source_of items)
  sources_are before [] h = All-nil (IsSource known version)
  sources_are before (fields at i gs ∷ items) h = sources_are (suc before) items h.2
  sources_are before (init at i p ∷ items) h =
      All-cons (IsSource known version) _ (each source_of items) (record { message = number_type known; depth = refl; kind = refl }) (sources_are before items h)
  sources_are before (period at i ms p d ∷ items) h =
      All-cons (IsSource known version) _ (each source_of items) (record { message = number_type known; depth = h.1; kind = (refl, h.0) }) (sources_are before items h.2)
  sources_are before (signal at i t p d ∷ items) h =
      All-cons (IsSource known version) _ (each source_of items) (record { message = declared known t h.0; depth = h.1; kind = tt }) (sources_are before items h.2)
  sources_are before (channel at i t ∷ items) h = sources_are before items h.1
  sources_are before (output at i u ∷ items) h = sources_are before items h.1
  sources_are before (monitor at i ps ∷ items) h = sources_are before items h.2

  abbrev CarriesDeclared : Channel → Type 0
  CarriesDeclared c = Declared (length arch.records) c.message

  pub channels_are : (before : ℕ) (items : List (RawItem Link)) → AreItems arch version before items → All (λ c. Declared (length arch.records) c.message) (each channel_of items)
  channels_are before [] h = All-nil CarriesDeclared
  channels_are before (fields at i gs ∷ items) h = channels_are (suc before) items h.2
  channels_are before (init at i p ∷ items) h = channels_are before items h
  channels_are before (period at i ms p d ∷ items) h = channels_are before items h.2
  channels_are before (signal at i t p d ∷ items) h = channels_are before items h.2
  channels_are before (channel at i t ∷ items) h = All-cons CarriesDeclared _ (each channel_of items) (declared known t h.0) (channels_are before items h.1)
  channels_are before (output at i u ∷ items) h = channels_are before items h.1
  channels_are before (monitor at i ps ∷ items) h = channels_are before items h.2

  abbrev IsOnChannel : Output → Type 0
  IsOnChannel o = o.channel < length arch.channels

  pub outputs_are : (before : ℕ) (items : List (RawItem Link)) → AreItems arch version before items → All (λ o. o.channel < length arch.channels) (each output_of items)
  outputs_are before [] h = All-nil IsOnChannel
  outputs_are before (fields at i gs ∷ items) h = outputs_are (suc before) items h.2
  outputs_are before (init at i p ∷ items) h = outputs_are before items h
  outputs_are before (period at i ms p d ∷ items) h = outputs_are before items h.2
  outputs_are before (signal at i t p d ∷ items) h = outputs_are before items h.2
  outputs_are before (channel at i t ∷ items) h = outputs_are before items h.1
  outputs_are before (output at i u ∷ items) h = All-cons IsOnChannel _ (each output_of items) (channel_below arch u.target h.0) (outputs_are before items h.1)
  outputs_are before (monitor at i ps ∷ items) h = outputs_are before items h.2

  abbrev HoldsDeclared : Monitor → Type 0
  HoldsDeclared m = IsShortRecord (length arch.records) m.states

  pub monitors_are : (before : ℕ) (items : List (RawItem Link)) → AreItems arch version before items → All (λ m. IsShortRecord (length arch.records) m.states) (each monitor_of items)
  monitors_are before [] h = All-nil HoldsDeclared
  monitors_are before (fields at i gs ∷ items) h = monitors_are (suc before) items h.2
  monitors_are before (init at i p ∷ items) h = monitors_are before items h
  monitors_are before (period at i ms p d ∷ items) h = monitors_are before items h.2
  monitors_are before (signal at i t p d ∷ items) h = monitors_are before items h.2
  monitors_are before (channel at i t ∷ items) h = monitors_are before items h.1
  monitors_are before (output at i u ∷ items) h = monitors_are before items h.1
  monitors_are before (monitor at i ps ∷ items) h =
      All-cons HoldsDeclared _ (each monitor_of items) (states_declared known ps h.0, let l = few_states ps in omega (arith, h.1)) (monitors_are before items h.2)

-- ---- handlers and listeners

abbrev InMonitor : ℕ → Written → Type 0
InMonitor n w = w.monitor < n

parts_in : (n m : ℕ) (ps : List (RawPart Link)) → m < n → All (InMonitor n) (each (written_of m) ps)
parts_in n m [] lt = All-nil (InMonitor n)
parts_in n m (state at i t ∷ ps) lt = parts_in n m ps lt
parts_in n m (handler at i u hs ∷ ps) lt = All-cons (InMonitor n) _ (each (written_of m) ps) lt (parts_in n m ps lt)

handlers_in_from : (n m : ℕ) (items : List (RawItem Link)) → m + length (each monitor_of items) ≤ n → All (InMonitor n) (handlers_from m items)
handlers_in_from n m [] le = All-nil (InMonitor n)
handlers_in_from n m (fields at i gs ∷ items) le = handlers_in_from n m items le
handlers_in_from n m (init at i p ∷ items) le = handlers_in_from n m items le
handlers_in_from n m (period at i ms p d ∷ items) le = handlers_in_from n m items le
handlers_in_from n m (signal at i t p d ∷ items) le = handlers_in_from n m items le
handlers_in_from n m (channel at i t ∷ items) le = handlers_in_from n m items le
handlers_in_from n m (output at i u ∷ items) le = handlers_in_from n m items le
handlers_in_from n m (monitor at i ps ∷ items) le =
    All-append (InMonitor n) (each (written_of m) ps) (handlers_from (m + 1) items) (parts_in n m ps (omega arith)) (handlers_in_from n (m + 1) items (omega arith))

pub monitors_exist : (items : List (RawItem Link)) → All (λ w. w.monitor < length (each monitor_of items)) (handlers_from 0 items)
monitors_exist items = handlers_in_from (length (each monitor_of items)) 0 items (omega arith)

-- so many numbers from a number on
abbrev counting : ℕ → ℕ → List ℕ
counting k zero = []
counting k (suc n) = k ∷ counting (suc k) n

before_counting : (n m : ℕ) → numbers_before n (counting n m) ≡ counting 0 (n + m)
before_counting zero m = let e : m ≡ 0 + m = omega arith in ap (counting 0) e
before_counting (suc n) m = let e : n + suc m ≡ suc n + m = omega arith in before_counting n (suc m) ∙ ap (counting 0) e

counted : (n : ℕ) → counting 0 n ≡ numbers_before n []
counted n = let e : n + 0 ≡ n = omega arith in sym (before_counting n 0 ∙ ap (counting 0) e)

counting_more : (k n m : ℕ) → counting k n ++ counting (k + n) m ≡ counting k (n + m)
counting_more k zero m = let e : k + 0 ≡ k = omega arith in let f : m ≡ 0 + m = omega arith in ap (λ j. counting j m) e ∙ ap (counting k) f
counting_more k (suc n) m =
    let e : k + suc n ≡ suc k + n = omega arith in
    let f : suc (n + m) ≡ suc n + m = omega arith in
    ap (λ j. k ∷ (counting (suc k) n ++ counting j m)) e ∙ ap (λ l. k ∷ l) (counting_more (suc k) n m) ∙ ap (counting k) f

no_outputs : (h : ℕ) (ps : List (RawPart Link)) (ls : List Listener) → outputs_among (part_listeners h ps ++ ls) ≡ outputs_among ls
no_outputs h [] ls = refl
no_outputs h (state at i t ∷ ps) ls = no_outputs h ps ls
no_outputs h (handler at i u hs ∷ ps) ls = no_outputs (h + 1) ps ls

outputs_from : (o h : ℕ) (items : List (RawItem Link)) → outputs_among (listeners o h items) ≡ counting o (length (each output_of items))
outputs_from o h [] = refl
outputs_from o h (fields at i gs ∷ items) = outputs_from o h items
outputs_from o h (init at i p ∷ items) = outputs_from o h items
outputs_from o h (period at i ms p d ∷ items) = outputs_from o h items
outputs_from o h (signal at i t p d ∷ items) = outputs_from o h items
outputs_from o h (channel at i t ∷ items) = outputs_from o h items
outputs_from o h (output at i u ∷ items) =
    let e : o + 1 ≡ suc o = omega arith in
    ap (λ l. o ∷ l) (outputs_from (o + 1) h items ∙ ap (λ k. counting k (length (each output_of items))) e)
outputs_from o h (monitor at i ps ∷ items) = no_outputs h ps (listeners o (h + handlers_in ps) items) ∙ outputs_from o (h + handlers_in ps) items

pub outputs_listed : (items : List (RawItem Link)) → outputs_among (listeners 0 0 items) ≡ numbers_before (length (each output_of items)) []
outputs_listed items = outputs_from 0 0 items ∙ counted (length (each output_of items))

part_handlers : (h : ℕ) (ps : List (RawPart Link)) (ls : List Listener) → handlers_among (part_listeners h ps ++ ls) ≡ counting h (handlers_in ps) ++ handlers_among ls
part_handlers h [] ls = refl
part_handlers h (state at i t ∷ ps) ls = part_handlers h ps ls
part_handlers h (handler at i u hs ∷ ps) ls =
    let e : h + 1 ≡ suc h = omega arith in
    let f : suc (handlers_in ps) ≡ handlers_in ps + 1 = omega arith in
    ap (λ l. h ∷ l) (part_handlers (h + 1) ps ls ∙ ap (λ k. counting k (handlers_in ps) ++ handlers_among ls) e) ∙ ap (λ n. counting h n ++ handlers_among ls) f

count_in : (m : ℕ) (ps : List (RawPart Link)) → length (each (written_of m) ps) ≡ handlers_in ps
count_in m [] = refl
count_in m (state at i t ∷ ps) = count_in m ps
count_in m (handler at i u hs ∷ ps) = omega (arith, count_in m ps)

handlers_listed_from : (o h m : ℕ) (items : List (RawItem Link)) → handlers_among (listeners o h items) ≡ counting h (length (handlers_from m items))
handlers_listed_from o h m [] = refl
handlers_listed_from o h m (fields at i gs ∷ items) = handlers_listed_from o h m items
handlers_listed_from o h m (init at i p ∷ items) = handlers_listed_from o h m items
handlers_listed_from o h m (period at i ms p d ∷ items) = handlers_listed_from o h m items
handlers_listed_from o h m (signal at i t p d ∷ items) = handlers_listed_from o h m items
handlers_listed_from o h m (channel at i t ∷ items) = handlers_listed_from o h m items
handlers_listed_from o h m (output at i u ∷ items) = handlers_listed_from (o + 1) h m items
handlers_listed_from o h m (monitor at i ps ∷ items) =
    let rest = length (handlers_from (m + 1) items) in
    let e : handlers_in ps + rest ≡ length (each (written_of m) ps ++ handlers_from (m + 1) items) =
    omega (arith, count_in m ps, length-append (each (written_of m) ps) (handlers_from (m + 1) items)) in
    part_handlers h ps (listeners o (h + handlers_in ps) items)
    ∙ ap (λ l. counting h (handlers_in ps) ++ l) (handlers_listed_from o (h + handlers_in ps) (m + 1) items)
    ∙ counting_more h (handlers_in ps) rest ∙ ap (counting h) e

pub handlers_listed : (items : List (RawItem Link)) → handlers_among (listeners 0 0 items) ≡ numbers_before (length (handlers_from 0 items)) []
handlers_listed items = handlers_listed_from 0 0 0 items ∙ counted (length (handlers_from 0 items))
