use Rattle.std.proofs.Common.{◌∙◌, ap}
use Rattle.std.proofs.lemmas.Result.{IfOk-weaker}
use Rattle.task_listing.specs.Listing.{listing}
use Rattle.tower_top.specs.Compile.{listing_of}
use Rattle.tower_top.proofs.compile.listing_of.Goals as goal

pub returns : goal.returns
unfolding listing_of
returns c = IfOk-weaker c.write.result _ _ (λ bytes w. w ∙ ap listing c.in_ok-program.ensures.program) c.write.ensures
