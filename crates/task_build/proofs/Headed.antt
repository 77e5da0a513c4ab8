-- The head of a task, and the task alone.
use Rattle.std.proofs.Common.{◌≡◌, ◌∙◌, ◌≢◌, ℕ, zero, suc, ◌+◌, ◌-◌, ◌*◌, ◌<◌, ◌≤◌, ◌⊎◌, inl, inr, ℤ, pos, Bool, true, false, ◌==◌, List, [], ◌∷◌, ◌++◌, length, map, take, drop, replicate, Some, refl, sym, ap, subst, arith, slice_get, slice_set, length-set, append_assoc}
use Rattle.std.proofs.lemmas.Bool.{cases_eq, eqb-true, eq-eqb, ne_eqb, false≢true}
use Rattle.std.proofs.lemmas.List.{append-nil, length-append, length-take-le, length-drop, length-replicate, length-map}
use Rattle.std.proofs.lemmas.Option.{same_Some, none-some, get_or_from_slice_get, slice_get_within}
use Rattle.tower_types.specs.Value.{Value, flat, word}
use Rattle.tower_types.specs.Ty.{shape_in, table_of}
use Rattle.tower_types.proofs.Flat.{length-flat}
use Rattle.tower_syntax.specs.declared.arch.On.{On}
use Rattle.tower_syntax.specs.declared.arch.On.TheVariants as on
use Rattle.tower_syntax.specs.declared.arch.Listener.{Listener}
use Rattle.tower_syntax.specs.declared.arch.Listener.TheVariants as to
use Rattle.tower_syntax.specs.Arch.{Arch}
use Rattle.tower_syntax.specs.Graph.{handler, hears, same_on, subs, leads, Reaches, begins}
use Rattle.tower_syntax.specs.WellNumbered.{AreListeners}
use Rattle.tower_syntax.specs.Weights.{message_words, message_on, move, subscribers_weight, deliver}
use Rattle.tower_meaning.specs.System.{Item}
use Rattle.tower_meaning.specs.Fits.{fits_item, fits_message, KeepsTypes}
use Rattle.task_code.specs.declared.program.Buffer.{Buffer}
use Rattle.task_code.specs.declared.program.Task.{Task}
use Rattle.task_code.specs.Program.{Program}
use Rattle.task_code.specs.Own.{Filled, Own, empty_buffer, first_own}
use Rattle.task_code.specs.Does.{laid, word_at, on as onwards}
use Rattle.task_code.specs.Leads.{Leads, at}
use Rattle.task_code.proofs.Leads as steps
use Rattle.task_code.specs.Piece.{Piece, nil, end, Stands, joined}
use Rattle.emit_code.specs.Delivery.{Entry}
use Rattle.task_build.specs.TaskEntries.{Planned, Headed}
use Rattle.task_build.specs.CodeOf.{words_passed, passed, call_code}
use Rattle.task_alone.specs.Alone.{Safe, first_state}
use Rattle.task_alone.specs.Visits.{Visits}
use Rattle.task_alone.specs.SettingOf.{setting_of}
use Rattle.task_alone.proofs.Visits.{weaker, leading, then_on, serving, Serves}
use Rattle.channel_graph.specs.Chain.{LeadsAlong}
use Rattle.channel_graph.specs.Laws.{IsDelivery}
use Rattle.channel_graph.proofs.Linked.{link_of}
use Rattle.channel_graph.proofs.Members.{In, filter_has, contains_from_In, In-from_contains}
use Rattle.task_code.specs.Formed.{HoldWords, IsFormedBuffer, IsFormed}
use Rattle.emit_code.specs.Entries.{NoneComesBack, Behind, next, later, frame_in, place_in, Touched, Entered, HasParts}
use Rattle.task_build.proofs.Planned.{SectionRuns, AtHead, AtTake}
use Rattle.task_code.proofs.Lists.{set_same, set_other}
use Rattle.task_code.proofs.Formed.{at_is, formed_like}
use Rattle.emit_code.proofs.Listed.{in_map, all_in, same_on_channel}
use Rattle.task_build.proofs.Handled.{entry_visits}

-- ---- from frame to frame

record Passed (p : Program) (t : Task) (a b n place : ℕ) (o : Own) : Type 0 where
  words : List ℤ
  leads : Leads p t (2 * n) (at o place []) (at (record o { words = words }) (end place (words_passed a b n)) [])
  size : length words ≡ length o.words
  same : (c : ℕ) → (b ≤ c → c < b + n → ⊥) → slice_get words c ≡ slice_get o.words c
  copied : (k : ℕ) (w : ℤ) → k < n → slice_get o.words (a + k) ≡ Some w → slice_get words (b + k) ≡ Some w

module _ (p : Program) (t : Task) where
  passes : (n a b place : ℕ) (o : Own) → (a + n ≤ b) ⊎ (b + n ≤ a) → b + n ≤ length o.words → Stands t.code place (words_passed a b n) → Passed p t a b n place o
  passes zero a b place o apart room h = record {
    words = o.words;
    leads = steps.wider p t 0 (2 * 0) (at o place []) (at o place []) (steps.stays p t (at o place [])) (omega arith);
    size = refl;
    same = λ c out. refl;
    copied = λ k w lt. absurd (omega arith);
  }
  passes (suc n) a b place o apart room h =
      let w : ℤ = word_at o.words a in
      let o' : Own = record o { words = slice_set o.words b w } in
      let len : length o'.words ≡ length o.words = length-set o.words b w in
      let o1 : Own = at o (suc place) (w ∷ []) in
      let o2 : Own = at o' (suc (suc place)) [] in
      let rest : Passed p t (suc a) (suc b) n (suc (suc place)) o' = passes n (suc a) (suc b) (suc (suc place)) o' (moved n a b apart) (omega (arith, len, room)) h.1.1 in
      let o3 : Own = at (record o { words = rest.words }) (end place (words_passed a b (suc n))) [] in
      record {
        words = rest.words;
        leads = steps.wider p t (2 + 2 * n) (2 * suc n) (at o place []) o3
            (steps.then_on p t 2 (2 * n) (at o place []) o2 o3
            (steps.then_on p t 1 1 (at o place []) o1 o2 (steps.once p t (at o place []) o1 (steps.ld p t o place [] a h.0 (omega arith))) (steps.once p t o1 o2 (steps.store p t o (suc place) [] b w h.1.0)))
            rest.leads)
            (omega arith);
        size = rest.size ∙ len;
        same = λ c out. rest.same c (λ l r. out (omega (arith, l)) (omega (arith, r))) ∙ set_other o.words b c w (λ e. out (omega (arith, e)) (omega (arith, e)));
        copied = λ k v lt e. one k v lt e o' rest len refl;
      }
    where
      moved : (n a b : ℕ) → (a + suc n ≤ b) ⊎ (b + suc n ≤ a) → (suc a + n ≤ suc b) ⊎ (suc b + n ≤ suc a)
      moved n a b (inl l) = inl (omega (arith, l))
      moved n a b (inr r) = inr (omega (arith, r))

      not_there : (k : ℕ) → k < n → (a + suc n ≤ b) ⊎ (b + suc n ≤ a) → b ≢ a + suc k
      not_there k lt (inl l) e = omega (arith, l, e, lt)
      not_there k lt (inr r) e = omega (arith, r, e, lt)

      one : (k : ℕ) (v : ℤ) → k < suc n → slice_get o.words (a + k) ≡ Some v → (o' : Own) (rest : Passed p t (suc a) (suc b) n (suc (suc place)) o') → length o'.words ≡ length o.words → o'.words ≡ slice_set o.words b (word_at o.words a) → slice_get rest.words (b + k) ≡ Some v
      one zero v lt e o' rest len is =
          let za : a + 0 ≡ a = omega arith in
          let zb : b ≡ b + 0 = omega arith in
          let read : word_at o.words a ≡ v = get_or_from_slice_get o.words a v (pos 0) (subst (λ c. slice_get o.words c ≡ Some v) za e) in
          let first : slice_get (slice_set o.words b (word_at o.words a)) b ≡ Some (word_at o.words a) = set_same o.words b (word_at o.words a) (omega (arith, room)) in
          subst (λ c. slice_get rest.words c ≡ Some v) zb (rest.same b (λ l r. omega arith) ∙ ap (λ ws. slice_get ws b) is ∙ first ∙ ap Some read)
      one (suc k) v lt e o' rest len is =
          let zb : suc b + k ≡ b + suc k = omega arith in
          let za : a + suc k ≡ suc a + k = omega arith in
          let there : slice_get o'.words (a + suc k) ≡ Some v = ap (λ ws. slice_get ws (a + suc k)) is ∙ set_other o.words b (a + suc k) (word_at o.words a) (not_there k (omega (arith, lt)) apart) ∙ e in
          subst (λ c. slice_get rest.words c ≡ Some v) zb (rest.copied k v (omega (arith, lt)) (subst (λ c. slice_get o'.words c ≡ Some v) za there))

-- ---- what TAKE leaves

get_before : (xs ys : List ℤ) (k : ℕ) (w : ℤ) → slice_get xs k ≡ Some w → slice_get (xs ++ ys) k ≡ Some w
get_before [] ys k w e = absurd (none-some w e)
get_before (x ∷ xs) ys zero w e = e
get_before (x ∷ xs) ys (suc k) w e = get_before xs ys k w e

get_behind : (xs ys : List ℤ) (k : ℕ) → slice_get (xs ++ ys) (length xs + k) ≡ slice_get ys k
get_behind [] ys k = let z : 0 + k ≡ k = omega arith in ap (slice_get ys) z
get_behind (x ∷ xs) ys k = let z : suc (length xs) + k ≡ suc (length xs + k) = omega arith in ap (slice_get (x ∷ (xs ++ ys))) z ∙ get_behind xs ys k

laid_holds : (a : ℕ) (message ws : List ℤ) → a + length message ≤ length ws → HoldWords (laid a message ws) a message
laid_holds a message ws room k w e =
    let before : length (take a ws) ≡ a = taken a ws (omega (arith, room)) in
    ap (slice_get (laid a message ws)) (ap (λ n. n + k) (sym before)) ∙ shape a message ws k ∙ get_before message (drop (a + length message) ws) k w e
  where
    taken : (a : ℕ) (ws : List ℤ) → a ≤ length ws → length (take a ws) ≡ a
    taken zero ws h = refl
    taken (suc a) [] h = absurd (omega arith)
    taken (suc a) (w ∷ ws) h = ap suc (taken a ws (omega arith))

    shape : (a : ℕ) (message ws : List ℤ) (k : ℕ) → slice_get (laid a message ws) (length (take a ws) + k) ≡ slice_get (message ++ drop (a + length message) ws) k
    shape a message ws k = ap (λ l. slice_get l (length (take a ws) + k)) (append_assoc (take a ws) message (drop (a + length message) ws)) ∙ get_behind (take a ws) (message ++ drop (a + length message) ws) k

laid_long : (a : ℕ) (message ws : List ℤ) → a + length message ≤ length ws → length (laid a message ws) ≡ length ws
laid_long a message ws room =
    let first : length (take a ws) ≡ a = length-take-le a ws (omega (arith, room)) in
    let two : length (take a ws ++ message) ≡ length (take a ws) + length message = length-append (take a ws) message in
    let all : length (laid a message ws) ≡ length (take a ws ++ message) + length (drop (a + length message) ws) = length-append (take a ws ++ message) (drop (a + length message) ws) in
    let last : length (drop (a + length message) ws) ≡ length ws - (a + length message) = length-drop (a + length message) ws in
    omega (arith, first, two, all, last, room)

-- ---- a task at the start

get_empty : (bs : List Buffer) (b : ℕ) (s : Buffer) (f : Filled) → slice_get bs b ≡ Some s → slice_get (map empty_buffer bs) b ≡ Some f → f ≡ empty_buffer s
get_empty [] b s f is has = absurd (none-some s is)
get_empty (q ∷ bs) zero s f is has = sym (same_Some (empty_buffer q) f has) ∙ ap empty_buffer (same_Some q s is)
get_empty (q ∷ bs) (suc b) s f is has = get_empty bs b s f is has

all_wide : (n width k : ℕ) (ws : List ℤ) → slice_get (replicate n (replicate width (pos 0))) k ≡ Some ws → length ws ≡ width
all_wide zero width k ws e = absurd (none-some ws e)
all_wide (suc n) width zero ws e = ap length (sym (same_Some (replicate width (pos 0)) ws e)) ∙ length-replicate width (pos 0)
all_wide (suc n) width (suc k) ws e = all_wide n width k ws e

pub first_formed : (t : Task) → IsFormed t (first_own t)
first_formed t = record {
  room = length-replicate t.room (pos 0);
  many = length-map t.buffers empty_buffer;
  buffers = λ b s f is has.
      let e : f ≡ empty_buffer s = get_empty t.buffers b s f is has in
      subst (IsFormedBuffer s) (sym e) (record {
        slots = length-replicate s.bound (replicate s.width (pos 0));
        few = omega arith;
        wide = λ k ws h. all_wide s.bound s.width k ws h;
      });
}

-- ---- the head

pick_first : (b : Bool) (x y : Piece) → b ≡ true → (elim b [ true ↦ x | false ↦ y ]) ≡ x
pick_first true x y e = refl
pick_first false x y e = absurd (false≢true e)

pick_second : (b : Bool) (x y : Piece) → b ≡ false → (elim b [ true ↦ x | false ↦ y ]) ≡ y
pick_second true x y e = absurd (false≢true (sym e))
pick_second false x y e = refl

passed_same : (a b n : ℕ) → a ≡ b → passed a b n ≡ nil
passed_same a b n e = pick_first (a == b) nil (words_passed a b n) (eq-eqb a b e)

passed_other : (a b n : ℕ) → a ≢ b → passed a b n ≡ words_passed a b n
passed_other a b n e = pick_second (a == b) nil (words_passed a b n) (ne_eqb a b e)

not_source : (arch : Arch) (k c x : ℕ) → same_on (handler arch k).on (on.Source x) ≡ true → (handler arch k).on ≡ on.Channel c → ⊥
not_source arch k c x e is = false≢true (sym (ap (λ o. same_on o (on.Source x)) is) ∙ e)

pub same_on_source : (o : On) (s : ℕ) → same_on o (on.Source s) ≡ true → o ≡ on.Source s
same_on_source (on.Source a) s e = ap on.Source (eqb-true a s e)
same_on_source (on.Channel a) s e = absurd (false≢true e)

led_on : (arch : Arch) (h g : ℕ) → AreListeners arch → leads arch h g ≡ true → (c : ℕ) × ((handler arch g).on ≡ on.Channel c)
led_on arch h g listed led = let l = link_of arch h g listed led in (l.emitter.channel, same_on_channel (handler arch g).on l.emitter.channel l.on)

-- what follows a handler is on a channel
channel_of : (arch : Arch) (h g : ℕ) → AreListeners arch → Behind arch h g → (c : ℕ) × ((handler arch g).on ≡ on.Channel c)
channel_of arch h g listed (next b l) = led_on arch h b listed l
channel_of arch h g listed (later a b f l) = led_on arch a b listed l

-- no walk from h has more than 255 handlers
abbrev pub Short : Arch → ℕ → Type 0
Short arch h = (ks : List ℕ) → LeadsAlong arch h ks → length ks < 255

module _ (arch : Arch) (p : Program) (t : Task) (x : ℕ) (entries : List Entry) (planned : Planned arch p t x entries) (headed : Headed arch t x entries) (listed : AreListeners arch) (acyclic : NoneComesBack arch x) (keeps : KeepsTypes arch) (delivery : IsDelivery arch x (deliver arch)) (few : (h : ℕ) → Reaches arch x h → Short arch h) (sections : (h : ℕ) → Reaches arch x h → SectionRuns arch p t x entries h) where
  abbrev width : ℕ
  width = message_words arch (on.Source x)

  abbrev taken : ℕ
  taken = headed.taken

  abbrev at_head : Value → ℕ → Own → Type 0
  at_head v place o = AtHead t taken v place o

  abbrev OnSource : ℕ → Type 0
  OnSource k = In (to.Handler k) (subs arch (on.Source x))

  reaches : (k : ℕ) → OnSource k → Reaches arch x k
  reaches k h = begins k (contains_from_In (subs arch (on.Source x)) (to.Handler k) h)

  on_source : (k : ℕ) → OnSource k → (handler arch k).on ≡ on.Source x
  on_source k h = same_on_source (handler arch k).on x (filter_has (hears arch (on.Source x)) arch.listeners (to.Handler k) h).1

  message_in : (k : ℕ) → OnSource k → (frame_in entries k).param + width < (frame_in entries k).end
  message_in k h =
      let parts : HasParts arch k (frame_in entries k) = planned.framed.parts k (reaches k h) in
      let message : (frame_in entries k).param + message_words arch (handler arch k).on ≤ (frame_in entries k).temps = parts.message in
      let counter : (frame_in entries k).temps + 2 < (frame_in entries k).end = parts.counter in
      let same : message_words arch (handler arch k).on ≡ width = ap (message_words arch) (on_source k h) in
      omega (arith, message, counter, same)

  -- no call from the head changes the message that was taken
  untouched : (g k c : ℕ) → OnSource g → taken ≡ (frame_in entries g).param → OnSource k → taken ≤ c → c < taken + width → Touched arch x entries k c → ⊥
  untouched g k c on_g is on_k from before (inl f) =
      let ends : (frame_in entries g).param + width < (frame_in entries g).end = message_in g on_g in
      let low : (frame_in entries f.number).param ≤ c = f.from in
      let high : c < (frame_in entries f.number).end = f.before in
      let differ : g ≢ f.number = λ e. let c = channel_of arch k f.number listed f.follows in not_source arch f.number c.0 x (subst (λ h. same_on (handler arch h).on (on.Source x) ≡ true) e (filter_has (hears arch (on.Source x)) arch.listeners (to.Handler g) on_g).1) c.1 in
      apart (planned.framed.apart g f.number (reaches g on_g) f.reached differ) ends low high
    where
      apart : ((frame_in entries g).end ≤ (frame_in entries f.number).param) ⊎ ((frame_in entries f.number).end ≤ (frame_in entries g).param) → (frame_in entries g).param + width < (frame_in entries g).end → (frame_in entries f.number).param ≤ c → c < (frame_in entries f.number).end → ⊥
      apart (inl l) ends low high = omega (arith, l, ends, low, before, is)
      apart (inr l) ends low high = omega (arith, l, high, from, is)
  untouched g k c on_g is on_k from before (inr own) = elim (cases_eq g k) [
    | inl same ↦
        let param : (frame_in entries g).param ≡ (frame_in entries k).param = ap (λ h. (frame_in entries h).param) same in
        let size : message_words arch (handler arch k).on ≡ width = ap (message_words arch) (on_source k on_k) in
        let low : (frame_in entries k).param + message_words arch (handler arch k).on ≤ c = own.0 in
        omega (arith, low, size, param, is, before)
    | inr differ ↦ apart (planned.framed.apart g k (reaches g on_g) (reaches k on_k) differ) (message_in g on_g) own.0 own.1
  ]
    where
      apart : ((frame_in entries g).end ≤ (frame_in entries k).param) ⊎ ((frame_in entries k).end ≤ (frame_in entries g).param) → (frame_in entries g).param + width < (frame_in entries g).end → (frame_in entries k).param + message_words arch (handler arch k).on ≤ c → c < (frame_in entries k).end → ⊥
      apart (inl l) ends low high = omega (arith, l, ends, low, before, is)
      apart (inr l) ends low high = omega (arith, l, high, from, is)

  -- the message is in the frame of the handler that is called
  record Placed (v : Value) (k place : ℕ) (o : Own) : Type 0 where
    own : Own
    leads : Leads p t (2 * width) o own
    here : at_head v place own
    param : HoldWords own.words (frame_in entries k).param (flat v)

  places : (v : Value) → length (flat v) ≡ width → (g k place : ℕ) → OnSource g → taken ≡ (frame_in entries g).param → OnSource k → (o : Own) → at_head v place o
      → Stands t.code place (passed taken (frame_in entries k).param width) → Placed v k (end place (passed taken (frame_in entries k).param width)) o
  places v long g k place on_g is on_k o c = elim (cases_eq taken (frame_in entries k).param) [
    | inl same ↦ subst (λ q. Stands t.code place q → Placed v k (end place q) o) (sym (passed_same taken (frame_in entries k).param width same)) (λ h.
        record {
          own = o;
          leads = steps.wider p t 0 (2 * width) o o (steps.stays p t o) (omega arith);
          here = c;
          param = subst (λ a. HoldWords o.words a (flat v)) same c.message;
        })
    | inr differ ↦ subst (λ q. Stands t.code place q → Placed v k (end place q) o) (sym (passed_other taken (frame_in entries k).param width differ)) (λ h.
        let b : ℕ = (frame_in entries k).param in
        let size : length o.words ≡ t.room = c.formed.room in
        let ends : b + width < (frame_in entries k).end = message_in k on_k in
        let room : (frame_in entries k).end ≤ t.room = planned.framed.room k (reaches k on_k) in
        let not_g : g ≢ k = λ e. differ (is ∙ ap (λ h. (frame_in entries h).param) e) in
        let beside : (taken + width ≤ b) ⊎ (b + width ≤ taken) = apart (planned.framed.apart g k (reaches g on_g) (reaches k on_k) not_g) (message_in g on_g) ends in
        let r : Passed p t taken b width place o = passes p t width taken b place o beside (omega (arith, size, ends, room)) h in
        let o' : Own = at (record o { words = r.words }) (end place (words_passed taken b width)) [] in
        record {
          own = o';
          leads = subst (λ z. Leads p t (2 * width) z o') (sym (at_is o place c.is_at c.stack)) r.leads;
          here = record {
            is_at = refl;
            calls = c.calls;
            stack = refl;
            free = c.free;
            formed = formed_like t o o' c.formed r.size refl;
            message = λ j w e. let lt : j < length (flat v) = slice_get_within (flat v) j w e in r.same (taken + j) (λ l u. away beside j (omega (arith, lt, long)) l u) ∙ c.message j w e;
          };
          param = λ j w e. let lt : j < length (flat v) = slice_get_within (flat v) j w e in r.copied j w (omega (arith, lt, long)) (c.message j w e);
        })
  ]
    where
      apart : ((frame_in entries g).end ≤ (frame_in entries k).param) ⊎ ((frame_in entries k).end ≤ (frame_in entries g).param) → (frame_in entries g).param + width < (frame_in entries g).end → (frame_in entries k).param + width < (frame_in entries k).end → (taken + width ≤ (frame_in entries k).param) ⊎ ((frame_in entries k).param + width ≤ taken)
      apart (inl l) mine its = inl (omega (arith, l, mine, is))
      apart (inr l) mine its = inr (omega (arith, l, its, is))

      away : (taken + width ≤ (frame_in entries k).param) ⊎ ((frame_in entries k).param + width ≤ taken) → (j : ℕ) → j < width → (frame_in entries k).param ≤ taken + j → taken + j < (frame_in entries k).param + width → ⊥
      away (inl l) j lt h k' = omega (arith, l, lt, h)
      away (inr l) j lt h k' = omega (arith, l, k')

  -- one handler on the source is called
  calls : (v : Value) → length (flat v) ≡ width → (g k place : ℕ) → OnSource g → taken ≡ (frame_in entries g).param → OnSource k → fits_item arch (to.Handler k, v) ≡ true → Stands t.code place (call_code entries taken width (to.Handler k))
      → Visits (setting_of arch) p t x (at_head v place) ((to.Handler k, v) ∷ []) (move width + deliver arch k) (at_head v (end place (call_code entries taken width (to.Handler k))))
  calls v long g k place on_g is on_k fits stands =
      let after : ℕ = end place (passed taken (frame_in entries k).param width) in
      let s = setting_of arch in
      let Called : Own → Type 0 = λ o. Entered t entries k v o × (o.calls ≡ suc after ∷ []) × HoldWords o.words taken (flat v) in
      weaker s p t x (at_head v place) (at_head v place) ((to.Handler k, v) ∷ []) (2 * width + 1 + deliver arch k) (move width + deliver arch k) (at_head v (suc after)) (at_head v (suc after)) (λ o c. c) (λ o c. c) (omega arith)
      (then_on s p t x (at_head v place) [] (2 * width + 1) Called ((to.Handler k, v) ∷ []) (deliver arch k) (at_head v (suc after))
      (leading s p t x (at_head v place) (2 * width + 1) Called (λ o c.
      let r : Placed v k after o = places v long g k place on_g is on_k o c stands.0 in
      let o' : Own = record r.own { calls = suc r.own.place ∷ r.own.calls; place = place_in entries k } in
      let none : length r.own.calls ≡ 0 = ap length r.here.calls in (
        o',
        steps.then_on p t (2 * width) 1 o r.own o' r.leads (steps.once p t r.own o' (steps.call p t r.own r.own.place r.own.stack (place_in entries k) (ap (slice_get t.code) r.here.is_at ∙ stands.1) (omega (arith, none)))),
        (
          record { caller = suc r.own.place; earlier = r.own.calls; calls = refl; is_at = refl; stack = r.here.stack; free = r.here.free; formed = formed_like t r.own o' r.here.formed refl refl; message = r.param },
          ap (λ a. suc a ∷ r.own.calls) r.here.is_at ∙ ap (λ l. suc after ∷ l) r.here.calls,
          r.here.message,
        ),
      )))
      (λ n o rest handed since c room go.
      let one : length o.calls ≡ 1 = ap length c.1 in
      entry_visits arch p t x entries planned listed acyclic keeps (deliver arch) delivery sections 255 k (reaches k on_k) (few k (reaches k on_k)) 1 (omega arith) v fits o c.0 (omega (arith, one)) n o rest handed since refl room
      (λ o' handed' since' r le.
      let back = r.back (suc after) [] c.1 in
      go o' handed' since' (record {
        is_at = back.0;
        calls = back.1;
        stack = r.stack;
        free = r.free;
        formed = r.formed;
        message = λ j w e. let lt : j < length (flat v) = slice_get_within (flat v) j w e in r.changed.words (taken + j) (λ touch. untouched g k (taken + j) on_g is on_k (omega arith) (omega (arith, lt, long)) touch) ∙ c.2 j w e;
      }) le)))

  no_output : (o : ℕ) → In (to.Output o) (subs arch (on.Source x)) → ⊥
  no_output o h = false≢true (filter_has (hears arch (on.Source x)) arch.listeners (to.Output o) h).1

  -- all handlers on the source
  heads : (v : Value) → length (flat v) ≡ width → (ls : List Listener) → ((l : Listener) → In l ls → In l (subs arch (on.Source x))) → ((l : Listener) → In l ls → fits_item arch (l, v) ≡ true) → (place : ℕ) → Stands t.code place (joined (map (call_code entries taken width) ls))
      → Visits (setting_of arch) p t x (at_head v place) (map (λ l. (l, v)) ls) (subscribers_weight (deliver arch) width ls) (at_head v (end place (joined (map (call_code entries taken width) ls))))
  heads v long [] all fits place stands = leading (setting_of arch) p t x (at_head v place) 0 (at_head v place) (λ o c. (o, steps.stays p t o, c))
  heads v long (to.Output o ∷ ls) all fits place stands = absurd (no_output o (all (to.Output o) (inl refl)))
  heads v long (to.Handler k ∷ ls) all fits place stands =
      let mid : ℕ = end place (call_code entries taken width (to.Handler k)) in
      let f = headed.first k (contains_from_In (subs arch (on.Source x)) (to.Handler k) (all (to.Handler k) (inl refl))) in
      let on_g : OnSource f.0 = In-from_contains (subs arch (on.Source x)) (to.Handler f.0) f.1 in
      then_on (setting_of arch) p t x (at_head v place) ((to.Handler k, v) ∷ []) (move width + deliver arch k) (at_head v mid) (map (λ l. (l, v)) ls) (subscribers_weight (deliver arch) width ls) (at_head v (end mid (joined (map (call_code entries taken width) ls))))
      (calls v long f.0 k place on_g f.2 (all (to.Handler k) (inl refl)) (fits (to.Handler k) (inl refl)) stands.0)
      (heads v long ls (λ l h. all l (inr h)) (λ l h. fits l (inr h)) mid stands.1)

  serves : (o : Own) → AtTake t o → Serves (setting_of arch) p t x (AtTake t) (λ v. at_head v 1) o
  serves o c = record {
    address = taken;
    this = ap (slice_get t.code) c.is_at ∙ headed.stands.0;
    free = c.free;
    taken = λ v fits.
        let long : length (flat v) ≡ width = length-flat (shape_in (table_of arch.records) (message_on arch (on.Source x))) v fits in
        let size : length o.words ≡ t.room = c.formed.room in
        let room : taken + width ≤ t.room = headed.room in
        let o' : Own = onwards (record o { words = laid taken (flat v) o.words }) in
        record {
          is_at = ap suc c.is_at;
          calls = c.calls;
          stack = c.stack;
          free = c.free;
          formed = formed_like t o o' c.formed (laid_long taken (flat v) o.words (omega (arith, long, size, room))) refl;
          message = laid_holds taken (flat v) o.words (omega (arith, long, size, room));
        };
  }

  delivers : (v : Value) → fits_message arch x v ≡ true → Visits (setting_of arch) p t x (at_head v 1) ((setting_of arch).system.subscribers x v) (subscribers_weight (deliver arch) width (subs arch (on.Source x)) + 1) (AtTake t)
  delivers v fits =
      let s = setting_of arch in
      let ls : List Listener = subs arch (on.Source x) in
      let last : ℕ = end 1 (joined (map (call_code entries taken width) ls)) in
      let items : List Item = map (λ l. (l, v)) ls in
      let long : length (flat v) ≡ width = length-flat (shape_in (table_of arch.records) (message_on arch (on.Source x))) v fits in
      subst (λ q. Visits s p t x (at_head v 1) q (subscribers_weight (deliver arch) width ls + 1) (AtTake t)) (append-nil items)
      (then_on s p t x (at_head v 1) items (subscribers_weight (deliver arch) width ls) (at_head v last) [] 1 (AtTake t)
      (heads v long ls (λ l h. h) (λ l h. all_in {X = Item} (λ q. fits_item arch q ≡ true) items (l, v) (keeps.delivered x v fits) (in_map {Y = Item} (λ k. (k, v)) l ls h)) 1 headed.stands.1.0)
      (leading s p t x (at_head v last) 1 (AtTake t) (λ o c.
      let o' : Own = record o { place = 0 } in (
        o',
        steps.once p t o o' (steps.jmp p t o o.place o.stack 0 (ap (slice_get t.code) c.is_at ∙ headed.stands.1.1)),
        record { is_at = refl; calls = c.calls; stack = c.stack; free = c.free; formed = formed_like t o o' c.formed refl refl },
      ))))

  -- the task alone
  pub safe_alone : (n : ℕ) → Safe (setting_of arch) p t x n (first_state t)
  safe_alone n =
      serving (setting_of arch) p t x (AtTake t) (λ v. at_head v 1) (subscribers_weight (deliver arch) width (subs arch (on.Source x)) + 1) (omega arith) serves delivers n (first_own t) (word (pos 0)) 0
      (record { is_at = refl; calls = refl; stack = refl; free = refl; formed = first_formed t }) (omega arith)
