-- Where the names of a callback stand, and what its places are.
use Rattle.std.specs.Prelude.{ℕ, zero, suc, ◌+◌, ◌-◌, ◌*◌, List, [], ◌∷◌, slice_index_or, pos, Option, Some, None, Bool, true, false, ◌||◌}
use Rattle.tower_types.specs.Ty.{Shape, one, many, all, Shapes, no_shapes, shape, words}
use Rattle.tower_syntax.specs.declared.body.Root.{Root}
use Rattle.tower_syntax.specs.declared.body.Root.TheVariants as root
use Rattle.tower_syntax.specs.Tree.{Expr, lit, Place, place, Steps, no_steps, field, at}
use Rattle.tower_syntax.specs.Arch.{Arch, Handler, Body}
use Rattle.tower_syntax.specs.Weights.{Scope, scope_of, root_shape, field_shape, element_shape}
use Rattle.task_code.specs.declared.frame.Frame.{Frame}

pub record Layout : Type 0 where
  pub scope : Scope
  pub monitor : ℕ
  pub param : ℕ
  pub binders : List ℕ
  pub temps : ℕ
  pub scratch : List ℕ
  pub first_buffer : ℕ

abbrev pub layout_of : Arch → Handler → Frame → ℕ → Body → Layout
layout_of arch h f i b = record {
  scope = scope_of arch h b;
  monitor = h.monitor;
  param = f.param;
  binders = slice_index_or f.binders i [];
  temps = f.temps;
  scratch = f.scratch;
  first_buffer = f.first_buffer;
}

abbrev pub binder_at : Layout → ℕ → ℕ
binder_at w b = slice_index_or w.binders b 0

-- the words of a message of emitter k
abbrev pub scratch_at : Layout → ℕ → ℕ
scratch_at w k = slice_index_or w.scratch k 0

-- the words of the first k shapes
abbrev pub words_before : List Shape → ℕ → ℕ
words_before [] k = 0
words_before (s ∷ ss) zero = 0
words_before (s ∷ ss) (suc k) = words s + words_before ss k

abbrev pub fields_before : Shapes → ℕ → ℕ
fields_before no_shapes k = 0
fields_before (shape s ss) zero = 0
fields_before (shape s ss) (suc k) = words s + fields_before ss k

-- where words stand: private ones, or a monitor's
pub data Base : Type 0 where
  private : (a : ℕ) → Base
  monitor : (m a : ℕ) → Base

abbrev pub root_base : Layout → Root → Base
root_base w root.Param = private w.param
root_base w (root.Binder b) = private (binder_at w b)
root_base w (root.State k) = monitor w.monitor (words_before w.scope.states k)

abbrev pub plus : Base → ℕ → Base
plus (private a) n = private (a + n)
plus (monitor m a) n = monitor m (a + n)

-- an index that the text gives
abbrev pub given_index : Expr → Option ℕ
given_index (lit t (pos n)) = Some n
given_index _ = None

abbrev pub field_offset : ℕ → Shape → ℕ
field_offset k (one s) = 0
field_offset k (many n s) = 0
field_offset k (all ss) = fields_before ss k

abbrev pub given_offset : Option ℕ → ℕ → ℕ
given_offset None width = 0
given_offset (Some k) width = k * width

-- the part of a place's offset that the text gives
abbrev pub fixed_offset : Shape → Steps → ℕ
fixed_offset s no_steps = 0
fixed_offset s (field k rest) = field_offset k s + fixed_offset (field_shape k s) rest
fixed_offset s (at e rest) = given_offset (given_index e) (words (element_shape s)) + fixed_offset (element_shape s) rest

abbrev pub is_moving : Option ℕ → Bool
is_moving None = true
is_moving (Some k) = false

-- does an index that is no literal stand in the steps
abbrev pub moves : Steps → Bool
moves no_steps = false
moves (field k rest) = moves rest
moves (at e rest) = is_moving (given_index e) || moves rest

abbrev pub place_root : Place → Root
place_root (place r steps) = r

abbrev pub place_steps : Place → Steps
place_steps (place r steps) = steps

abbrev pub place_base : Layout → Place → Base
place_base w (place r steps) = plus (root_base w r) (fixed_offset (root_shape w.scope r) steps)

-- how many words there are from the place's base to the end of its root
abbrev pub place_span : Layout → Place → ℕ
place_span w (place r steps) = words (root_shape w.scope r) - fixed_offset (root_shape w.scope r) steps
