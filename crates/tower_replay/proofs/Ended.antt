-- How a replay ends.
use Rattle.std.proofs.Common.{◌≡◌, ◌≤◌, ◌++◌, ℕ, List, [], Option, Some, None, refl, sym, subst, arith}
use Rattle.tower_io.specs.declared.answers.Put.{Put}
use Rattle.tower_io.specs.declared.answers.Put.TheVariants as put
use Rattle.tower_report.specs.Bytes.{Bytes}
use Rattle.tower_report.specs.Puts.{Puts}
use Rattle.tower_run.specs.Paging.{HasPut, PutsOver}
use Rattle.tower_run.proofs.Paging.{put_none, put_flushed, flush_failed, all_sent}
use Rattle.tower_syntax.specs.declared.event.Mark.{Mark}
use Rattle.tower_syntax.specs.Arch.{Arch, Events}
use Rattle.tower_meaning.specs.Replayed as meaning
use Rattle.tower_meaning.specs.System.{system_of}
use Rattle.tower_report.specs.ReplayText.{state_text, replay_end, replay_text}
use Rattle.tower_replay.specs.Pieces.{verdict_text}
use Rattle.tower_replay.specs.declared.trial.Replayed.{Replayed}
use Rattle.tower_replay.specs.declared.trial.Replayed.TheVariants as answer
use Rattle.tower_replay.specs.declared.trial.Tried.{Tried}
use Rattle.tower_replay.specs.Trial.{HasTried, PutsTried, replayed_of}

module _ {S : Type 0} (w : S → Option (List ℕ)) (f : S → ℕ) (first out : S) (held start text : Bytes) (empty : start ≡ []) (misfit : Option ℕ) where
  nothing : HasPut w f first first start []
  nothing = let P : Bytes → Type 0 = λ h. HasPut w f first first h [] in subst P (sym empty) (put_none w f first)

  all_put : (o : Option ℕ) (last : S) → HasPut w f first last [] text → PutsTried w f first last text o (replayed_of put.Done o)
  all_put None last h = let e = h.calm in record { ends = (refl, all_sent h, e); never_falls = omega (arith, e) }
  all_put (Some k) last h = let e = h.calm in record { ends = (refl, all_sent h, e); never_falls = omega (arith, e) }

  -- the text was put, and then what the page held
  pub flushed : (last : S) (r : Put) → PutsOver w f first start out held text put.Done → Puts w f out last held r → PutsTried w f first last text misfit (replayed_of r misfit)
  flushed last put.Done h p = all_put misfit last (put_flushed (h.behind first [] nothing) p)
  flushed last put.Failed h p = let g = flush_failed (h.behind first [] nothing) p in record { ends = (g.part, g.rose); never_falls = g.never_falls }

  -- a put failed before
  pub failed : PutsOver w f first start out held text put.Failed → PutsTried w f first out text misfit answer.WriteFault
  failed h = let g = h.behind first [] nothing in record { ends = (g.part, g.rose); never_falls = g.never_falls }

-- what was put is the text of the replay
pub as_replayed : {S : Type 0} (w : S → Option (List ℕ)) (f : S → ℕ) (first out : S) (arch : Arch) (events : Events) (marks : List Mark) (t : Tried) (r : Replayed) → HasTried arch events marks t
    → PutsTried w f first out (verdict_text arch t.verdict) t.verdict.misfit r
    → PutsTried w f first out (replay_text arch events marks) (meaning.first_misfit (system_of arch) events marks) r
as_replayed w f first out arch events marks t r tried h =
    let P : meaning.Replayed → Type 0 = λ q. PutsTried w f first out (state_text arch q.state ++ replay_end q.misfit) q.misfit r in
    subst P (sym tried.comes_to) h
