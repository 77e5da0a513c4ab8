-- How stretches of code that visit items are put together.
use Rattle.std.proofs.Common.{◌≡◌, ℕ, zero, suc, ◌+◌, ◌*◌, ◌<◌, ◌≤◌, true, List, [], ◌∷◌, ◌++◌, length, take, drop, flat_map, Some, None, refl, sym, subst, arith, append_assoc, slice_get, slice_index}
use Rattle.std.proofs.lemmas.List.{append-nil}
use Rattle.tower_types.specs.Value.{Value, flat}
use Rattle.tower_syntax.specs.declared.arch.Listener.TheVariants as to
use Rattle.tower_meaning.specs.System.{Item}
use Rattle.task_code.specs.declared.program.Task.{Task}
use Rattle.task_code.specs.declared.program.Instr.TheVariants.{Call, Ret, Take, Out}
use Rattle.task_code.specs.Program.{Program}
use Rattle.task_code.specs.Own.{Own}
use Rattle.task_code.specs.Does.{laid, on}
use Rattle.task_code.specs.Leads.{Leads}
use Rattle.task_code.proofs.Leads as leads
use Rattle.task_alone.specs.Setting.{Setting}
use Rattle.task_alone.specs.Alone.{Asks, Safe}
use Rattle.task_alone.specs.Visits.{SafeAt, Visits, with_lock_of, Section}
use Rattle.task_alone.proofs.Rules.{led, locks, unlocks, out}

module _ (s : Setting) (p : Program) (t : Task) (x : ℕ) where
  abbrev visits : (Own → Type 0) → List Item → ℕ → (Own → Type 0) → Type 0
  visits From items most To = Visits s p t x From items most To

  -- fewer begin so, more end so, and there is more time
  pub weaker : (From From' : Own → Type 0) (items : List Item) (m n : ℕ) (To To' : Own → Type 0) → ((o : Own) → From' o → From o) → ((o : Own) → To o → To' o) → m ≤ n → visits From items m To → visits From' items n To'
  weaker From From' items m n To To' begin end le f k o rest handed since b room go =
      f k o rest handed since (begin o b) (omega arith) (λ o' handed' since' e le'. go o' handed' since' (end o' e) (omega arith))

  -- private instructions visit nothing
  pub leading : (From : Own → Type 0) (most : ℕ) (To : Own → Type 0) → ((o : Own) → From o → (o' : Own) × Leads p t most o o' × To o') → visits From [] most To
  leading From most To f k o rest handed since b room go =
      let l = f o b in
      led s p t x k most o l.0 rest handed since l.1 room (λ since' le. go l.0 handed since' l.2 le)

  -- one stretch after another
  pub then_on : (A : Own → Type 0) (items : List Item) (m : ℕ) (B : Own → Type 0) (more : List Item) (n : ℕ) (C : Own → Type 0) → visits A items m B → visits B more n C → visits A (items ++ more) (m + n) C
  then_on A items m B more n C f g k o rest handed since b room go =
      subst (λ l. SafeAt s p t x k o l handed since) (sym (append_assoc items more rest))
      (f k o (more ++ rest) handed since b (omega arith)
      (λ o' handed' since' e le. g k o' rest handed' since' e (omega arith)
      (λ o'' handed'' since'' e' le'. go o'' handed'' since'' e' (omega arith))))

  -- OUT visits an output
  pub record Sends (k : ℕ) (v : Value) (o : Own) : Type 0 where
    pub address : ℕ
    pub this : slice_get t.code o.place ≡ Some (Out k address)
    pub free : o.held ≡ None
    pub words : take (slice_index p.outputs k) (drop address o.words) ≡ flat v

  pub sending : (From : Own → Type 0) (k : ℕ) (v : Value) (To : Own → Type 0) → ((o : Own) → From o → Sends k v o × To (on o)) → visits From ((to.Output k, v) ∷ []) 1 To
  sending From k v To f n o rest handed since b room go =
      let l = f o b in
      out s p t x n o o.place o.stack handed since (omega arith) k l.0.address v rest l.0.this l.0.free l.0.words
      (go (on o) handed (suc since) l.1 (omega arith))

  -- a section and the delivery of its lists visit a handler
  pub handling : (From : Own → Type 0) (h : ℕ) (message : Value) (most : ℕ) (After : Value → Own → Type 0) (later : ℕ) (To : Own → Type 0) → ((o : Own) → From o → Section s p t x h message most o After) → ((v : Value) → s.fits_monitor (s.system.monitor h) v ≡ true → visits (After v) (s.system.follow h (s.system.effect h v message).lists) later To) → visits From ((to.Handler h, message) ∷ []) (2 + most + later) To
  handling From h message most After later To f deliver n o rest handed since b room go =
      let c = f o b in
      locks s p t x n o o.place o.stack handed since (omega arith) (s.system.monitor h) h message rest c.lock c.free refl
      (λ v fits.
      let u = c.body v fits in
      led s p t x n most (with_lock_of (s.system.monitor h) v o) u.own ((to.Handler h, message) ∷ rest) v (suc since) u.leads (omega arith)
      (λ since' le. unlocks s p t x n u.own u.own.place u.own.stack v since' (omega arith) (s.system.monitor h) h message rest u.unlock u.words u.lists
      (deliver v fits n (on (record u.own { held = None })) rest v (suc since') u.after (omega arith)
      (λ o' handed' since'' e le'. go o' handed' since'' e (omega arith)))))

  -- CALL and RET around what the called code visits
  pub record Calls (o inside : Own) : Type 0 where
    pub entry : ℕ
    pub this : slice_get t.code o.place ≡ Some (Call entry)
    pub room : length o.calls < 256
    pub inside_is : inside ≡ record o { calls = suc o.place ∷ o.calls; place = entry }

  pub record Returns (o outside : Own) : Type 0 where
    pub back : ℕ
    pub calls : List ℕ
    pub this : slice_get t.code o.place ≡ Some Ret
    pub has_calls : o.calls ≡ back ∷ calls
    pub outside_is : outside ≡ record o { calls = calls; place = back }

  pub calling : (From Inside : Own → Type 0) (items : List Item) (most : ℕ) (Back To : Own → Type 0) → ((o : Own) → From o → (i : Own) × Calls o i × Inside i) → visits Inside items most Back → ((o : Own) → Back o → (u : Own) × Returns o u × To u) → visits From items (1 + (most + 1)) To
  calling From Inside items most Back To call inside back =
      then_on From [] 1 Inside items (most + 1) To
      (leading From 1 Inside (λ o b. let c = call o b in
      (c.0, subst (Leads p t 1 o) (sym c.1.inside_is) (leads.once p t o (record o { calls = suc o.place ∷ o.calls; place = c.1.entry }) (leads.call p t o o.place o.stack c.1.entry c.1.this c.1.room)), c.2)))
      (subst (λ l. visits Inside l (most + 1) To) (append-nil items)
      (then_on Inside items most Back [] 1 To inside
      (leading Back 1 To (λ o b. let c = back o b in
      (c.0, subst (Leads p t 1 o) (sym c.1.outside_is) (leads.once p t o (record o { calls = c.1.calls; place = c.1.back }) (leads.ret p t o o.place o.stack c.1.back c.1.calls c.1.this c.1.has_calls)), c.2)))))

  -- for one after another of a list
  each_from : {A : Type 0} (xs : List A) (items : A → List Item) (i most : ℕ) (At : ℕ → Own → Type 0) → ((j : ℕ) (a : A) → slice_get xs j ≡ Some a → visits (At (i + j)) (items a) most (At (suc (i + j)))) → visits (At i) (flat_map items xs) (length xs * most) (At (i + length xs))
  each_from [] items i most At f =
      let z : i + 0 ≡ i = omega arith in
      let none : 0 * most ≡ 0 = omega arith in
      subst (λ k. visits (At i) [] (0 * most) (At k)) (sym z) (leading (At i) (0 * most) (At i) (λ o b. (o, subst (λ n. Leads p t n o o) (sym none) (leads.stays p t o), b)))
  each_from {A} (a ∷ xs) items i most At f =
      let z : i + 0 ≡ i = omega arith in
      let later : suc i + length xs ≡ i + suc (length xs) = omega arith in
      let time : most + length xs * most ≡ suc (length xs) * most = omega arith in
      let on_from : (j : ℕ) → i + suc j ≡ suc i + j = λ j. omega arith in
      subst (λ n. visits (At i) (items a ++ flat_map items xs) n (At (i + suc (length xs)))) time
      (subst (λ k. visits (At i) (items a ++ flat_map items xs) (most + length xs * most) (At k)) later
      (then_on (At i) (items a) most (At (suc i)) (flat_map items xs) (length xs * most) (At (suc i + length xs))
      (subst (λ k. visits (At k) (items a) most (At (suc k))) z (f 0 a refl))
      (each_from xs items (suc i) most At (λ j b e. subst (λ k. visits (At k) (items b) most (At (suc k))) (on_from j) (f (suc j) b e)))))

  pub each : {A : Type 0} (xs : List A) (items : A → List Item) (most : ℕ) (At : ℕ → Own → Type 0) → ((j : ℕ) (a : A) → slice_get xs j ≡ Some a → visits (At j) (items a) most (At (suc j))) → visits (At 0) (flat_map items xs) (length xs * most) (At (length xs))
  each xs items most At f =
      let z : (j : ℕ) → j ≡ 0 + j = λ j. omega arith in
      let n : 0 + length xs ≡ length xs = omega arith in
      subst (λ k. visits (At 0) (flat_map items xs) (length xs * most) (At k)) n
      (each_from xs items 0 most At (λ j a e. subst (λ k. visits (At k) (items a) most (At (suc k))) (z j) (f j a e)))

  -- a task that comes back to TAKE, whatever message it takes, is safe
  pub record Serves (Taking : Own → Type 0) (Taken : Value → Own → Type 0) (o : Own) : Type 0 where
    pub address : ℕ
    pub this : slice_get t.code o.place ≡ Some (Take address)
    pub free : o.held ≡ None
    pub taken : (v : Value) → s.fits_message x v ≡ true → Taken v (on (record o { words = laid address (flat v) o.words }))

  pub serving : (Taking : Own → Type 0) (Taken : Value → Own → Type 0) (most : ℕ) → 1 + most ≤ s.cost x → ((o : Own) → Taking o → Serves Taking Taken o) → ((v : Value) → s.fits_message x v ≡ true → visits (Taken v) (s.system.subscribers x v) most Taking) → (n : ℕ) (o : Own) (handed : Value) (since : ℕ) → Taking o → since ≤ s.cost x → SafeAt s p t x n o [] handed since
  serving Taking Taken most room take deliver zero o handed since b le = tt
  serving Taking Taken most room take deliver (suc n) o handed since b le =
      let c = take o b in (
        le,
        subst (λ d. Asks s x (record { own = o; pending = []; handed = handed; since = since }) d (Safe s p t x n)) (sym (leads.takes p t o o.place o.stack c.address c.this c.free)) (
          refl,
          λ v fits.
              subst (λ l. SafeAt s p t x n (on (record o { words = laid c.address (flat v) o.words })) l handed 1) (append-nil (s.system.subscribers x v))
              (deliver v fits n (on (record o { words = laid c.address (flat v) o.words })) [] handed 1 (c.taken v fits) room
              (λ o' handed' since' e le'. serving Taking Taken most room take deliver n o' handed' since' e (omega arith))),
        ),
      )
