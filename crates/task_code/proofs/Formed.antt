-- A task's own part, as it stands at a place.
use Rattle.std.proofs.Common.{◌≡◌, ◌∙◌, ℕ, [], length, ap, sym, slice_get}
use Rattle.task_code.specs.declared.program.Task.{Task}
use Rattle.task_code.specs.Own.{Own}
use Rattle.task_code.specs.Leads.{at}
use Rattle.task_code.specs.Formed.{IsFormed}

pub at_is : (o : Own) (place : ℕ) → o.place ≡ place → o.stack ≡ [] → o ≡ at o place []
at_is o place e f = ap (λ b. at o b o.stack) e ∙ ap (at o place) f

pub formed_like : (t : Task) (o o' : Own) → IsFormed t o → length o'.words ≡ length o.words → o'.buffers ≡ o.buffers → IsFormed t o'
formed_like t o o' f e g = record { room = e ∙ f.room; many = ap length g ∙ f.many; buffers = λ b s h is has. f.buffers b s h is (ap (λ bs. slice_get bs b) (sym g) ∙ has) }
