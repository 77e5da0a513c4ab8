-- The private words and the buffers of each handler in a task.
use Rattle.std.specs.Prelude.{ℕ, ◌+◌, List, [], ◌∷◌, map, sum}
use Rattle.tower_types.specs.Ty.{words, shape_in, table_of}
use Rattle.tower_syntax.specs.Arch.{Arch, Handler, Body}
use Rattle.tower_syntax.specs.Graph.{handler}
use Rattle.tower_syntax.specs.Weights.{message_words, emitter_words}
use Rattle.task_code.specs.declared.frame.Frame.{Frame}

-- where each part begins, the first at a
abbrev pub laid : ℕ → List ℕ → List ℕ
laid a [] = []
laid a (n ∷ ns) = a ∷ laid (a + n) ns

abbrev pub binder_words : Arch → Body → List ℕ
binder_words arch b = map (λ f. words (shape_in (table_of arch.records) f.1)) b.binders

abbrev pub binders_laid : Arch → ℕ → List Body → List (List ℕ)
binders_laid arch a [] = []
binders_laid arch a (b ∷ bs) = laid a (binder_words arch b) ∷ binders_laid arch (a + sum (binder_words arch b)) bs

abbrev pub binders_of : Arch → Handler → ℕ
binders_of arch h = sum (map (λ b. sum (binder_words arch b)) h.callbacks)

abbrev pub frame_of : Arch → ℕ → ℕ → ℕ → Frame
frame_of arch h base buffer =
    let names = base + message_words arch (handler arch h).on in
    let temps = names + binders_of arch (handler arch h) in
    let sent = map (emitter_words arch) (handler arch h).emitters in
    record {
      param = base;
      binders = binders_laid arch names (handler arch h).callbacks;
      temps = temps;
      scratch = laid (temps + 3) sent;
      first_buffer = buffer;
      end = temps + 3 + sum sent;
    }
