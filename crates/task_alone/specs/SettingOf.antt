-- The setting of a system: its meaning, what fits where, its costs, and where buffers stand.
use Rattle.std.specs.Prelude.{ℕ, zero, suc, ◌+◌, List, [], ◌∷◌, ◌==◌, length, true, false}
use Rattle.tower_syntax.specs.Arch.{Arch}
use Rattle.tower_syntax.specs.Graph.{handler, reached_by}
use Rattle.tower_syntax.specs.Weights.{cost}
use Rattle.tower_meaning.specs.System.{system_of}
use Rattle.tower_meaning.specs.Fits.{fits_message, fits_monitor, fits_item}
use Rattle.task_alone.specs.Setting.{Setting}

abbrev pub numbers_from : ℕ → ℕ → List ℕ
numbers_from a zero = []
numbers_from a (suc n) = a ∷ numbers_from (suc a) n

-- the place of the first buffer of h, where those of the listed handlers stand one after another
abbrev pub first_buffer : Arch → List ℕ → ℕ → ℕ
first_buffer arch [] h = 0
first_buffer arch (k ∷ ks) h = elim (k == h) [ true ↦ 0 | false ↦ length (handler arch k).emitters + first_buffer arch ks h ]

-- the places of the buffers of h in the task of source x
abbrev pub buffer_places : Arch → ℕ → ℕ → List ℕ
buffer_places arch x h = numbers_from (first_buffer arch (reached_by arch x) h) (length (handler arch h).emitters)

abbrev pub setting_of : Arch → Setting
setting_of arch = record {
  system = system_of arch;
  fits_message = fits_message arch;
  fits_monitor = fits_monitor arch;
  fits_item = fits_item arch;
  cost = cost arch;
  buffers = buffer_places arch;
}
