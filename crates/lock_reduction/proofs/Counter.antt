-- The counter of ten instructions runs alone as its system says, so it is sound.
use Rattle.std.proofs.Common.{◌≡◌, ◌∙◌, ℕ, zero, suc, ◌<◌, ℤ, pos, Bool, true, false, ◌&&◌, [], ◌∷◌, length, Some, None, refl, sym, ap, subst, arith, slice_get}
use Rattle.std.specs.Prelude.{All}
use Rattle.std.proofs.lemmas.List.Elements.{All-nil, All-cons}
use Rattle.std.proofs.lemmas.Option.{same_Some, none-some}
use Rattle.tower_types.specs.declared.scalar.Scalar.TheVariants.{U32}
use Rattle.tower_types.specs.declared.scalar.BinOp.TheVariants.{Add}
use Rattle.tower_types.specs.Value.{Value, word, parts, no_values, value, fits_scalar}
use Rattle.tower_types.specs.Arithmetic.{binary_of}
use Rattle.tower_syntax.specs.Graph.{handler}
use Rattle.tower_syntax.specs.Weights.{scope_of}
use Rattle.tower_syntax.specs.Typed.{no_names, HasItsMessage, IsProperType, AreProperFields, AreTypedStmts, IsTypedHandler, IsTyped}
use Rattle.tower_syntax.specs.WellNumbered.{IsNumberedType, AreNumberedFields, IsNumberedSource, IsNumberedBody, IsNumberedHandler, IsWellNumbered}
use Rattle.tower_syntax.specs.Examples.{clock}
use Rattle.task_code.specs.declared.program.Task.{Task}
use Rattle.task_code.specs.Program.{Program}
use Rattle.task_code.specs.Own.{Own}
use Rattle.task_code.specs.Leads.{Leads, at}
use Rattle.task_code.specs.WorkedListing.{counter, counter_task}
use Rattle.task_code.proofs.Leads as leads
use Rattle.task_alone.specs.Setting.{Setting}
use Rattle.task_alone.specs.Alone.{Safe, first_state}
use Rattle.task_alone.specs.Visits.{Visits, Unlocking, with_lock_of, Section}
use Rattle.lock_reduction.specs.Shaped.{Shaped, BeginsWithTake}
use Rattle.lock_reduction.specs.Reduce.{Alone, Sound}
use Rattle.task_alone.specs.SettingOf.{setting_of}
use Rattle.task_alone.proofs.Visits.{leading, handling, serving, Serves}
use Rattle.lock_reduction.proofs.Instance.{reduced}

-- ---- the system is typed and well numbered

typed_handler : IsTypedHandler clock (handler clock 0)
typed_handler =
    record {
      names = All-cons (λ b. AreProperFields clock b.binders) _ [] (All-nil (λ f. IsProperType clock f.1)) (All-nil (λ b. AreProperFields clock b.binders));
      callbacks = All-cons (λ b. AreTypedStmts (scope_of clock (handler clock 0) b) no_names b.stmts) _ []
          ((tt, (U32, (omega arith, refl), (refl, refl, (omega arith, refl), (refl, refl)))), tt)
          (All-nil (λ b. AreTypedStmts (scope_of clock (handler clock 0) b) no_names b.stmts));
    }

typed : IsTyped clock
typed = record {
  sources = All-cons (λ s. HasItsMessage clock s s.kind) _ [] (refl, omega arith) (All-nil (λ s. HasItsMessage clock s s.kind));
  channels = All-nil (λ c. IsProperType clock c.message);
  monitors = All-cons (λ m. AreProperFields clock m.states) _ [] (All-cons (λ f. IsProperType clock f.1) _ [] tt (All-nil (λ f. IsProperType clock f.1))) (All-nil (λ m. AreProperFields clock m.states));
  handlers = All-cons (IsTypedHandler clock) (handler clock 0) [] typed_handler (All-nil (IsTypedHandler clock));
}

numbered_body : All (IsNumberedBody clock (handler clock 0)) (handler clock 0).callbacks
numbered_body =
    All-cons (IsNumberedBody clock (handler clock 0)) _ []
    (record {
      binders = (omega arith, All-nil (λ f. IsNumberedType 0 f.1));
      stmts = (((omega arith, tt), ((omega arith, tt), tt)), tt);
      shallow = omega arith;
    })
    (All-nil (IsNumberedBody clock (handler clock 0)))

numbered_handler : IsNumberedHandler clock (handler clock 0)
numbered_handler = record {
  monitor = omega arith;
  on = omega arith;
  few = omega arith;
  emitters = All-nil (λ e. e.channel < length clock.channels);
  callbacks = numbered_body;
}

numbered : IsWellNumbered clock
numbered = record {
  version = (omega arith, omega arith);
  countable = record { records = omega arith; sources = omega arith; channels = omega arith; outputs = omega arith; monitors = omega arith; handlers = omega arith };
  records = (λ r fields e. absurd (none-some fields e), All-nil (AreNumberedFields 0));
  record_names = refl;
  sources = All-cons (IsNumberedSource clock) _ [] (record { message = (tt, omega arith); depth = refl }) (All-nil (IsNumberedSource clock));
  channels = All-nil (λ c. IsNumberedType (length clock.records) c.message);
  outputs = All-nil (λ o. o.channel < length clock.channels);
  monitors = All-cons (λ m. AreNumberedFields 0 m.states) _ [] (omega arith, All-cons (λ f. IsNumberedType 0 f.1) _ [] (tt, omega arith) (All-nil (λ f. IsNumberedType 0 f.1))) (All-nil (λ m. AreNumberedFields 0 m.states));
  handlers = All-cons (IsNumberedHandler clock) (handler clock 0) [] numbered_handler (All-nil (IsNumberedHandler clock));
  listeners = record { outputs = refl; handlers = refl };
}

shaped : Shaped clock counter
shaped = record {
  tasks = refl;
  monitors = refl;
  outputs = refl;
  begins = All-cons BeginsWithTake counter_task [] (0, refl) (All-nil BeginsWithTake);
  buffers = refl;
  memory = omega arith;
  code = omega arith;
}

-- ---- the task alone

abbrev here : Setting
here = setting_of clock

-- at a place with an empty stack and no lock
record IsAt (a : ℕ) (o : Own) : Type 0 where
  place : o.place ≡ a
  stack : o.stack ≡ []
  free : o.held ≡ None

at_is : (a : ℕ) (o : Own) → IsAt a o → o ≡ at o a []
at_is a o h = ap (λ b. at o b o.stack) h.place ∙ ap (at o a) h.stack

code_at : (a : ℕ) (o : Own) → IsAt a o → slice_get counter_task.code o.place ≡ slice_get counter_task.code a
code_at a o h = ap (slice_get counter_task.code) h.place

begins : (o : Own) → IsAt 0 o → Serves here counter counter_task 0 (IsAt 0) (λ v o. IsAt 1 o) o
begins o h = record { address = 0; this = code_at 0 o h; free = h.free; taken = λ v fits. record { place = ap suc h.place; stack = h.stack; free = h.free } }

-- from behind LOCK to UNLOCK
adds : (o : Own) (n : ℤ) → o.held ≡ Some (record { monitor = 0; words = n ∷ [] }) → fits_scalar U32 n ≡ true → Leads counter counter_task 6 (at o 2 []) (at (record o { held = Some (record { monitor = 0; words = binary_of Add U32 n (pos 1) ∷ [] }) }) 8 [])
adds o n held fit =
    let m : ℤ = binary_of Add U32 n (pos 1) in
    let p : Program = counter in
    let t : Task = counter_task in
    leads.then_on p t 1 5 (at o 2 []) (at o 3 (pos 0 ∷ [])) _ (leads.once p t (at o 2 []) (at o 3 (pos 0 ∷ [])) (leads.push p t o 2 [] (pos 0) refl (omega arith)))
    (leads.then_on p t 1 4 (at o 3 (pos 0 ∷ [])) (at o 4 (pos 0 ∷ pos 0 ∷ [])) _ (leads.once p t (at o 3 (pos 0 ∷ [])) (at o 4 (pos 0 ∷ pos 0 ∷ [])) (leads.push p t o 3 (pos 0 ∷ []) (pos 0) refl (omega arith)))
    (leads.then_on p t 1 3 (at o 4 (pos 0 ∷ pos 0 ∷ [])) (at o 5 (n ∷ pos 0 ∷ [])) _ (leads.once p t (at o 4 (pos 0 ∷ pos 0 ∷ [])) (at o 5 (n ∷ pos 0 ∷ [])) (leads.ldm p t o 4 (pos 0 ∷ []) 0 0 1 0 (n ∷ []) refl held (omega arith)))
    (leads.then_on p t 1 2 (at o 5 (n ∷ pos 0 ∷ [])) (at o 6 (pos 1 ∷ n ∷ pos 0 ∷ [])) _ (leads.once p t (at o 5 (n ∷ pos 0 ∷ [])) (at o 6 (pos 1 ∷ n ∷ pos 0 ∷ [])) (leads.push p t o 5 (n ∷ pos 0 ∷ []) (pos 1) refl (omega arith)))
    (leads.then_on p t 1 1 (at o 6 (pos 1 ∷ n ∷ pos 0 ∷ [])) (at o 7 (m ∷ pos 0 ∷ [])) _ (leads.once p t (at o 6 (pos 1 ∷ n ∷ pos 0 ∷ [])) (at o 7 (m ∷ pos 0 ∷ [])) (leads.bin p t o 6 (pos 0 ∷ []) Add U32 n (pos 1) refl refl fit refl))
    (leads.once p t (at o 7 (m ∷ pos 0 ∷ [])) _ (leads.stm p t o 7 [] 0 0 1 0 m (n ∷ []) refl held (omega arith)))))))

no_number : {A : Type 0} (b : Bool) → (b && false) ≡ true → A
no_number true e = absurd (cc e)
no_number false e = absurd (cc e)

-- a value of the monitor is one number
unlocking : (message v : Value) (o : Own) → IsAt 1 o → here.fits_monitor 0 v ≡ true → Unlocking here counter counter_task 0 0 message v 6 (with_lock_of 0 v o) (IsAt 9)
unlocking message (word n) o h e = absurd (cc e)
unlocking message (parts no_values) o h e = absurd (cc e)
unlocking message (parts (value (parts vs) more)) o h e = absurd (cc e)
unlocking message (parts (value (word n) (value w more))) o h e = no_number (fits_scalar U32 n) e
unlocking message (parts (value (word n) no_values)) o h e =
    let o' : Own = record o { held = Some (record { monitor = 0; words = n ∷ [] }) } in
    let starts : with_lock_of 0 (parts (value (word n) no_values)) o ≡ at o' 2 [] = ap (λ a. at o' (suc a) o.stack) h.place ∙ ap (at o' 2) h.stack in
    record {
      own = at (record o { held = Some (record { monitor = 0; words = binary_of Add U32 n (pos 1) ∷ [] }) }) 8 [];
      leads = subst (λ u. Leads counter counter_task 6 u (at (record o { held = Some (record { monitor = 0; words = binary_of Add U32 n (pos 1) ∷ [] }) }) 8 [])) (sym starts) (adds o' n refl (only (fits_scalar U32 n) e));
      unlock = refl;
      words = refl;
      lists = tt;
      after = record { place = refl; stack = refl; free = refl };
    }
  where
    only : (b : Bool) → (b && true) ≡ true → b ≡ true
    only true e = refl
    only false e = absurd (cc e)

section : (message : Value) (o : Own) → IsAt 1 o → Section here counter counter_task 0 0 message 6 o (λ v. IsAt 9)
section message o h = record { lock = code_at 1 o h; free = h.free; body = λ v e. unlocking message v o h e }

jumps : Visits here counter counter_task 0 (IsAt 9) [] 1 (IsAt 0)
jumps = leading here counter counter_task 0 (IsAt 9) 1 (IsAt 0) (λ o h. (at o 0 o.stack, leads.once counter counter_task o (at o 0 o.stack) (leads.jmp counter counter_task o o.place o.stack 0 (code_at 9 o h)), record { place = refl; stack = h.stack; free = h.free }))

serves : (n : ℕ) → Safe here counter counter_task 0 n (first_state counter_task)
serves n =
    serving here counter counter_task 0 (IsAt 0) (λ v o. IsAt 1 o) 9 (omega arith) begins
    (λ v fits. handling here counter counter_task 0 (IsAt 1) 0 v 6 (λ w. IsAt 9) 1 (IsAt 0) (λ o h. section v o h) (λ w fits. jumps))
    n (first_state counter_task).own (word (pos 0)) 0 (record { place = refl; stack = refl; free = refl }) (omega arith)

alone : Alone clock counter
alone zero t e n = subst (λ t. Safe here counter t 0 n (first_state t)) (same_Some counter_task t e) (serves n)
alone (suc x) t e n = absurd (none-some t e)

pub sound : Sound clock counter
sound = reduced clock counter numbered typed shaped alone
