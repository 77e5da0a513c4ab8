-- What the lock of a monitor is seen as.
use Rattle.std.specs.Prelude.{ℤ, List, Option, Some, None}
use Rattle.task_code.specs.Machine.{Lock as MonitorLock, Free as IsFree, HeldBy as IsHeldBy}
use Rattle.task_machine.specs.declared.lock.Kept.{Kept}
use Rattle.task_machine.specs.declared.lock.Kept.TheVariants.{Free, HeldBy}

abbrev pub lock_of : Kept → MonitorLock
lock_of (Free ws) = IsFree ws
lock_of (HeldBy t) = IsHeldBy t

-- the words of a monitor that is free
abbrev pub free_words : MonitorLock → Option (List ℤ)
free_words (IsFree ws) = Some ws
free_words (IsHeldBy t) = None

abbrev pub free_words_at : Option MonitorLock → Option (List ℤ)
free_words_at None = None
free_words_at (Some l) = free_words l
