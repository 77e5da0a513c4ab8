-- The words of a frame, part after part.
use Rattle.std.specs.Prelude.{◌≡◌, ℕ, ◌+◌, ◌*◌, ◌≤◌, List, [], ◌∷◌, ◌++◌, length, map, sum}
use Rattle.tower_syntax.specs.Arch.{Arch, Body}
use Rattle.tower_syntax.specs.Graph.{handler}
use Rattle.tower_syntax.specs.Weights.{message_words, emitter_words, handler_memory}
use Rattle.task_code.specs.declared.frame.Frame.{Frame}
use Rattle.stmt_code.specs.FrameOf.{binder_words, frame_of}

-- where parts begin, each with its number of words
abbrev pub zipped : List ℕ → List ℕ → List (ℕ × ℕ)
zipped [] ns = []
zipped (a ∷ starts) [] = []
zipped (a ∷ starts) (n ∷ ns) = (a, n) ∷ zipped starts ns

abbrev pub names_parts : Arch → List (List ℕ) → List Body → List (ℕ × ℕ)
names_parts arch [] bs = []
names_parts arch (starts ∷ more) [] = []
names_parts arch (starts ∷ more) (b ∷ bs) = zipped starts (binder_words arch b) ++ names_parts arch more bs

-- the message, the names of each callback, three words for indices and a count, and a message of each emitter
abbrev pub parts_of : Arch → ℕ → Frame → List (ℕ × ℕ)
parts_of arch h f =
    (f.param, message_words arch (handler arch h).on) ∷ names_parts arch f.binders (handler arch h).callbacks
    ++ (f.temps, 3) ∷ zipped f.scratch (map (emitter_words arch) (handler arch h).emitters)

-- the first part begins at a, each other one where that before it ends, and the last ends at z
abbrev pub Consecutive : ℕ → List (ℕ × ℕ) → ℕ → Type 0
Consecutive a [] z = a ≡ z
Consecutive a (part ∷ parts) z = (a ≡ part.0) × Consecutive (part.0 + part.1) parts z

-- each name and each emitter has its part, no two parts share a word, and with the buffers they are no more than the weight
pub record IsLaidOut (arch : Arch) (h base buffer : ℕ) (f : Frame) : Type 0 where
  pub names : map length f.binders ≡ map (λ (b : Body). length b.binders) (handler arch h).callbacks
  pub emitters : length f.scratch ≡ length (handler arch h).emitters
  pub parts : Consecutive base (parts_of arch h f) f.end
  pub first : f.first_buffer ≡ buffer
  pub small : f.end + sum (map (λ e. e.bound * emitter_words arch e) (handler arch h).emitters) ≤ base + handler_memory arch (handler arch h)

abbrev pub FramesAreLaidOut : Type 0
FramesAreLaidOut = (arch : Arch) (h base buffer : ℕ) → IsLaidOut arch h base buffer (frame_of arch h base buffer)
