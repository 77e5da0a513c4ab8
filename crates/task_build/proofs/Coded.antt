-- The program of a system has the delivery code.
use Rattle.std.proofs.Common.{◌≡◌, ◌∙◌, ℕ, zero, suc, ◌+◌, ◌^◌, ◌<◌, ◌≤◌, ◌⊎◌, inl, inr, List, [], ◌∷◌, ◌++◌, length, map, Some, Contains, refl, sym, ap, subst, arith, slice_get, slice_index, slice_index_or}
use Rattle.std.proofs.lemmas.Option.{same_Some, none-some}
use Rattle.tower_types.specs.Ty.{words, shape_in, table_of}
use Rattle.tower_syntax.specs.declared.arch.On.TheVariants as on
use Rattle.tower_syntax.specs.declared.arch.Listener.{Listener}
use Rattle.tower_syntax.specs.declared.arch.Listener.TheVariants as to
use Rattle.tower_syntax.specs.Arch.{Arch, Source}
use Rattle.tower_syntax.specs.Graph.{handler, no_output, hears, subs, Reaches, begins, goes, reached_by}
use Rattle.tower_syntax.specs.WellNumbered.{AreListeners}
use Rattle.tower_meaning.proofs.KeepsTypes.{keeps_types}
use Rattle.tower_syntax.specs.Weights.{message_words, channel_message, handler_memory, memory}
use Rattle.task_code.specs.declared.program.Buffer.{Buffer}
use Rattle.task_code.specs.declared.program.Task.{Task}
use Rattle.task_code.specs.Piece.{Piece, ◌▸◌, end, Stands}
use Rattle.task_code.specs.declared.frame.Frame.{Frame}
use Rattle.task_build.specs.CodeOf.{frames_from, end_of, buffers_of, all_buffers, head_code, handlers_code, taken_at, task_of, tasks_from, code_of}
use Rattle.emit_code.specs.Delivery.{Entry}
use Rattle.lock_reduction.specs.Reduce.{Alone}
use Rattle.task_alone.specs.SettingOf.{first_buffer}
use Rattle.channel_graph.specs.Chain.{IsWalk}
use Rattle.channel_graph.proofs.Members.{In, filter_has, contains_from_In, In-from_contains}
use Rattle.channel_graph.proofs.Closed.{listed_is_reached, reached_is_listed}
use Rattle.arch_checks.specs.declared.fault.What.TheVariants as what
use Rattle.arch_checks.specs.Laws.{IsSafe}
use Rattle.task_build.proofs.Handled.{sections_run}
use Rattle.task_build.proofs.Roots.{handler_in_memory}
use Rattle.task_build.proofs.Planned.{HasSmallBounds, IsDelivered}
use Rattle.task_build.specs.TaskEntries.{known_of, taken_of, entries_of, Planned, Headed}
use Rattle.emit_code.specs.Entries.{frame_in}
use Rattle.task_build.proofs.Frames.{inner}
use Rattle.emit_code.specs.Entries.{HasParts}
use Rattle.task_build.proofs.Headed.{same_on_source}
use Rattle.task_build.proofs.Placed.{Alike, all_stands, placed_alike, head_end, entry_stands}
use Rattle.task_build.proofs.Laid.{table_long, Lies, lies, Apart, apart, table_at}
use Rattle.task_alone.proofs.Lists.{get_unmap}
use Rattle.task_build.proofs.Lone.{alone}

index_mapped : {X : Type 0} (f : X → ℕ) (xs : List X) (i : ℕ) (d : X) → i < length xs → slice_index (map f xs) i ≡ f (slice_index_or xs i d)
index_mapped f [] i d h = absurd (omega arith)
index_mapped f (x ∷ xs) zero d h = refl
index_mapped f (x ∷ xs) (suc i) d h = index_mapped f xs i d (omega arith)

get_either : {X : Type 0} (xs ys : List X) (k : ℕ) (v : X) → slice_get (xs ++ ys) k ≡ Some v → (slice_get xs k ≡ Some v) ⊎ ((j : ℕ) × (slice_get ys j ≡ Some v))
get_either [] ys k v e = inr (k, e)
get_either (x ∷ xs) ys zero v e = inl e
get_either (x ∷ xs) ys (suc k) v e = get_either xs ys k v e

small_table : (arch : Arch) → HasSmallBounds arch → (hs : List ℕ) (b : ℕ) (s : Buffer) → slice_get (all_buffers arch hs) b ≡ Some s → s.bound + 1 < 2 ^ 64
small_table arch small [] b s e = absurd (none-some s e)
small_table arch small (h ∷ hs) b s e = elim (get_either (buffers_of arch (handler arch h).emitters) (all_buffers arch hs) b s e) [
  | inl here ↦
      let r = get_unmap (λ e. record { width = message_words arch (on.Channel e.channel); bound = e.bound }) (handler arch h).emitters b s here in
      subst (λ q. q.bound + 1 < 2 ^ 64) r.2 (small h b r.0 r.1)
  | inr there ↦ small_table arch small hs there.0 s there.1
]

-- a message is taken into the frame of the first handler
taken_first : (known : List Entry) (ls : List Listener) (k : ℕ) → In (to.Handler k) ls → (g : ℕ) × In (to.Handler g) ls × (taken_at known ls ≡ (frame_in known g).param)
taken_first known [] k h = absurd h
taken_first known (to.Output o ∷ ls) k (inl e) = absurd (cc e)
taken_first known (to.Output o ∷ ls) k (inr h) = let r = taken_first known ls k h in (r.0, inr r.1, r.2)
taken_first known (to.Handler g ∷ ls) k h = (g, inl refl, refl)

some_handler : (known : List Entry) (ls : List Listener) → ((k : ℕ) × In (to.Handler k) ls) ⊎ ((taken_at known ls ≡ 0) × ((k : ℕ) → In (to.Handler k) ls → ⊥))
some_handler known [] = inr (refl, λ k h. h)
some_handler known (to.Handler g ∷ ls) = inl (g, inl refl)
some_handler known (to.Output o ∷ ls) = elim (some_handler known ls) [
  | inl s ↦ inl (s.0, inr s.1)
  | inr none ↦ inr (none.0, λ k h. elim h [ inl e ↦ absurd (cc e) | inr m ↦ none.1 k m ])
]

has_first : (arch : Arch) (s h : ℕ) → Reaches arch s h → (g : ℕ) × Contains (subs arch (on.Source s)) (to.Handler g)
has_first arch s h (begins k c) = (k, c)
has_first arch s h (goes g k r led) = has_first arch s g r

no_elements : (hs : List ℕ) → ((k : ℕ) → In k hs → ⊥) → hs ≡ []
no_elements [] h = refl
no_elements (k ∷ hs) h = absurd (h k (inl refl))

last_same : (arch : Arch) (hs : List ℕ) (width h : ℕ) → In h hs → end_of width (frames_from arch 0 0 hs) ≡ end_of 0 (frames_from arch 0 0 hs)
last_same arch [] width h h_in = absurd h_in
last_same arch (k ∷ hs) width h h_in = refl

module _ (arch : Arch) (listed_once : AreListeners arch) (x : ℕ) (source : Source) where
  abbrev t : Task
  t = task_of arch x source

  abbrev hs : List ℕ
  hs = reached_by arch x

  abbrev width : ℕ
  width = message_words arch (on.Source x)

  abbrev from : ℕ
  from = end 0 (head_code arch (known_of arch x) x (taken_of arch x) width)

  abbrev head : Piece
  head = head_code arch (entries_of arch x) x (taken_of arch x) width

  abbrev handlers : Piece
  handlers = handlers_code arch (entries_of arch x) (entries_of arch x)

  alike : Alike (known_of arch x) (entries_of arch x)
  alike = placed_alike arch (known_of arch x) from hs (frames_from arch 0 0 hs)

  code_stands : Stands t.code 0 (head ▸ handlers)
  code_stands = all_stands (head ▸ handlers)

  handlers_stand : Stands t.code from handlers
  handlers_stand = subst (λ a. Stands t.code a handlers) (sym (head_end arch (known_of arch x) (entries_of arch x) alike x (taken_of arch x) width)) code_stands.1

  in_hs : (h : ℕ) → Reaches arch x h → In h hs
  in_hs h r = reached_is_listed arch x h listed_once r

  lie : (h : ℕ) → Reaches arch x h → Lies arch (known_of arch x) 0 0 (end_of 0 (frames_from arch 0 0 hs)) hs h (frame_in (entries_of arch x) h)
  lie h r = lies arch (known_of arch x) hs 0 0 from h (in_hs h r)

  place_is : (h : ℕ) → Reaches arch x h → (frame_in (entries_of arch x) h).first_buffer ≡ first_buffer arch hs h
  place_is h r = (lie h r).place ∙ nothing (first_buffer arch hs h)
    where
      nothing : (a : ℕ) → 0 + a ≡ a
      nothing a = omega arith

  room_is : (h : ℕ) → Reaches arch x h → (frame_in (entries_of arch x) h).end ≤ t.room
  room_is h r =
      let same : end_of width (frames_from arch 0 0 hs) ≡ end_of 0 (frames_from arch 0 0 hs) = last_same arch hs width h (in_hs h r) in
      subst (λ a. (frame_in (entries_of arch x) h).end ≤ a) (sym same) (lie h r).high

  pub planned : HasSmallBounds arch → Planned arch (code_of arch) t x (entries_of arch x)
  planned small = record {
    stands = λ h r. entry_stands arch t.code (known_of arch x) (entries_of arch x) alike hs 0 0 from handlers_stand h (in_hs h r);
    frame = λ h r. (lie h r).is;
    first = place_is;
    has_buffers = λ h r. subst (λ a. a + length (handler arch h).emitters ≤ length t.buffers) (sym (place_is h r)) (table_long arch hs h (in_hs h r));
    framed = record {
      parts = λ h r. inner arch h (frame_in (entries_of arch x) h) (lie h r).is;
      room = room_is;
      apart = λ h k rh rk ne. frames_apart h k (apart arch (known_of arch x) hs 0 0 from h k (in_hs h rh) (in_hs k rk) ne);
      buffers_apart = λ h k rh rk ne. buffers_apart h k (apart arch (known_of arch x) hs 0 0 from h k (in_hs h rh) (in_hs k rk) ne);
      tables = λ h k e r has. subst (λ a. slice_get t.buffers (a + k) ≡ Some (record { width = message_words arch (on.Channel e.channel); bound = e.bound })) (sym (place_is h r)) (table_at arch hs h k e (in_hs h r) has);
      outputs = λ o lt. index_mapped (λ q. words (shape_in (table_of arch.records) (channel_message arch q.channel))) arch.outputs o no_output lt;
      few = small_table arch small hs;
    };
  }
    where
      frames_apart : (h k : ℕ) → Apart arch (known_of arch x) h k (frame_in (entries_of arch x) h) (frame_in (entries_of arch x) k) → ((frame_in (entries_of arch x) h).end ≤ (frame_in (entries_of arch x) k).param) ⊎ ((frame_in (entries_of arch x) k).end ≤ (frame_in (entries_of arch x) h).param)
      frames_apart h k (inl b) = inl b.0
      frames_apart h k (inr b) = inr b.0

      buffers_apart : (h k : ℕ) → Apart arch (known_of arch x) h k (frame_in (entries_of arch x) h) (frame_in (entries_of arch x) k)
          → ((frame_in (entries_of arch x) h).first_buffer + length (handler arch h).emitters ≤ (frame_in (entries_of arch x) k).first_buffer) ⊎ ((frame_in (entries_of arch x) k).first_buffer + length (handler arch k).emitters ≤ (frame_in (entries_of arch x) h).first_buffer)
      buffers_apart h k (inl b) = inl b.1
      buffers_apart h k (inr b) = inr b.1

  taken_there : (k : ℕ) → Contains (subs arch (on.Source x)) (to.Handler k) → (g : ℕ) × Contains (subs arch (on.Source x)) (to.Handler g) × (taken_of arch x ≡ (frame_in (entries_of arch x) g).param)
  taken_there k c =
      let r = taken_first (known_of arch x) (subs arch (on.Source x)) k (In-from_contains (subs arch (on.Source x)) (to.Handler k) c) in
      (r.0, contains_from_In (subs arch (on.Source x)) (to.Handler r.0) r.1, r.2 ∙ ap (λ f. f.param) (alike r.0))

  head_room : taken_of arch x + width ≤ t.room
  head_room = elim (some_handler (known_of arch x) (subs arch (on.Source x))) [
    | inl s ↦
        let g = taken_there s.0 (contains_from_In (subs arch (on.Source x)) (to.Handler s.0) s.1) in
        let r : Reaches arch x g.0 = begins g.0 g.1 in
        let f : Frame = frame_in (entries_of arch x) g.0 in
        let parts : HasParts arch g.0 f = inner arch g.0 f (lie g.0 r).is in
        let source_on = same_on_source (handler arch g.0).on x (filter_has (hears arch (on.Source x)) arch.listeners (to.Handler g.0) (In-from_contains (subs arch (on.Source x)) (to.Handler g.0) g.1)).1 in
        let size : message_words arch (handler arch g.0).on ≡ width = ap (message_words arch) source_on in
        fits (taken_of arch x) f.param f.temps f.end t.room (message_words arch (handler arch g.0).on) width g.2 parts.message parts.counter (room_is g.0 r) size
    | inr none ↦
        let empty : hs ≡ [] = no_elements hs (λ k h. let c = has_first arch x k (listed_is_reached arch x k listed_once h) in none.1 c.0 (In-from_contains (subs arch (on.Source x)) (to.Handler c.0) c.1)) in
        let room : width ≡ t.room = ap (λ l. end_of width (frames_from arch 0 0 l)) (sym empty) in
        nothing (taken_of arch x) width t.room none.0 room
  ]
    where
      fits : (taken param temps last room size width : ℕ) → taken ≡ param → param + size ≤ temps → temps + 2 < last → last ≤ room → size ≡ width → taken + width ≤ room
      fits taken param temps last room size width a b c d e = omega (arith, a, b, c, d, e)

      nothing : (taken width room : ℕ) → taken ≡ 0 → width ≡ room → taken + width ≤ room
      nothing taken width room a b = omega (arith, a, b)

  pub headed : Headed arch t x (entries_of arch x)
  headed = record { taken = taken_of arch x; stands = code_stands.0; room = head_room; first = taken_there }

  pub delivered : x < length arch.sources → HasSmallBounds arch → IsSafe arch → IsDelivered arch (code_of arch) t x
  delivered lt small safe = record {
    there = lt;
    entries = entries_of arch x;
    planned = planned small;
    headed = headed;
    sections = λ h r. sections_run arch (code_of arch) t x (entries_of arch x) (planned small) safe h r (within h r);
  }
    where
      within : (h : ℕ) → Reaches arch x h → handler_memory arch (handler arch h) ≤ 1048576
      within h r =
          let whole : memory arch ≤ 1048576 = safe.within what.Memory (memory arch) refl in
          let part = handler_in_memory arch safe.numbered x h r in
          omega (arith, whole, part)

-- the tasks are those of the sources
task_from : (arch : Arch) (sources : List Source) (s x : ℕ) (t : Task) → slice_get (tasks_from arch s sources) x ≡ Some t → (source : Source) × (x < length sources) × (slice_get sources x ≡ Some source) × (task_of arch (s + x) source ≡ t)
task_from arch [] s x t e = absurd (none-some t e)
task_from arch (q ∷ sources) s zero t e = let z : s + 0 ≡ s = omega arith in (q, omega arith, refl, ap (λ a. task_of arch a q) z ∙ same_Some (task_of arch s q) t e)
task_from arch (q ∷ sources) s (suc x) t e =
    let r = task_from arch sources (suc s) x t e in
    let z : s + suc x ≡ suc s + x = omega arith in
    let lt : x < length sources = r.1 in
    (r.0, omega (arith, lt), r.2, ap (λ a. task_of arch a r.0) z ∙ r.3)

-- the program of a system is right alone
pub code_alone : (arch : Arch) → IsSafe arch → HasSmallBounds arch → ((walk : List ℕ) → IsWalk arch walk → length walk ≤ 100) → Alone arch (code_of arch)
code_alone arch safe small walks =
    let listed_once : AreListeners arch = safe.numbered.listeners in
    alone arch (code_of arch) listed_once safe.acyclic (keeps_types arch safe.numbered safe.typed) walks (λ x t e.
    let r = task_from arch arch.sources 0 x t e in
    let z : 0 + x ≡ x = omega arith in
    subst (λ q. IsDelivered arch (code_of arch) q x) (ap (λ a. task_of arch a r.0) (sym z) ∙ r.3) (delivered arch listed_once x r.0 r.1 small safe))
