-- What is known behind lines: which lines are still awaited, and what those that came have named.
use Rattle.std.specs.Prelude.{ℕ, ◌+◌, ◌*◌, min, List, [], ◌∷◌, ◌++◌, map, fold, drop, replicate}
use Rattle.std.specs.Str.Parse.{digits_value}
use Rattle.task_code.specs.Rules.{most_words, most_instructions}
use Rattle.task_listing.specs.Lines.{Bytes, words}
use Rattle.task_listing.specs.declared.kind.Kind.{Kind}
use Rattle.task_listing.specs.declared.kind.Kind.TheVariants as kind
use Rattle.task_listing.specs.declared.rules.Head.{Head}

-- a sum that has passed a limit counts no further
abbrev pub counted_to : ℕ → ℕ → ℕ
counted_to limit n = min n (limit + 1)

pub record Context : Type 0 where
  pub awaits : List Kind
  pub monitors : List ℕ
  pub outputs : List ℕ
  pub head : Head  -- of the last task
  pub words : ℕ  -- of monitors, rooms and buffers, counted to 1 above the limit
  pub instructions : ℕ  -- counted to 1 above the limit

abbrev pub start : Context
start = record {
  awaits = kind.Title ∷ kind.Monitors ∷ kind.Outputs ∷ kind.Tasks ∷ kind.Ending ∷ [];
  monitors = [];
  outputs = [];
  head = record { message = 0; room = 0; buffers = 0; code = 0 };
  words = 0;
  instructions = 0;
}

-- lines of these kinds come next
abbrev pub calls_for : List Kind → Context → Context
calls_for ks c = record c { awaits = ks ++ c.awaits }

-- behind a line of the kind with these numbers
abbrev pub behind : Kind → List ℕ → Context → Context
behind kind.Monitors (k ∷ []) c = calls_for (replicate k kind.Monitor) c
behind kind.Monitor (n ∷ []) c = record c { monitors = c.monitors ++ n ∷ []; words = counted_to most_words (c.words + n) }
behind kind.Outputs (k ∷ []) c = calls_for (replicate k kind.Output) c
behind kind.Output (n ∷ []) c = record c { outputs = c.outputs ++ n ∷ [] }
behind kind.Tasks (k ∷ []) c = calls_for (replicate k kind.Task) c
behind kind.Task (p ∷ message ∷ room ∷ buffers ∷ code ∷ []) c =
    record (calls_for (replicate buffers kind.Buffer ++ replicate code kind.Instruction) c) {
      head = record { message = message; room = room; buffers = buffers; code = code };
      words = counted_to most_words (c.words + room);
      instructions = counted_to most_instructions (c.instructions + code);
    }
behind kind.Buffer (width ∷ bound ∷ []) c = record c { words = counted_to most_words (c.words + bound * width) }
behind _ _ c = c

-- the numbers behind the first of words
abbrev pub numbers : List Bytes → List ℕ
numbers ws = map (digits_value 10) (drop 1 ws)

abbrev pub behind_awaited : List Kind → Bytes → Context → Context
behind_awaited [] l c = c
behind_awaited (k ∷ ks) l c = behind k (numbers (words l)) (record c { awaits = ks })

abbrev pub behind_line : Context → Bytes → Context
behind_line c l = behind_awaited c.awaits l c

abbrev pub context : List Bytes → Context
context ls = fold behind_line start ls
