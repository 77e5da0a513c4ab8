use Rattle.tower_top.specs.Compile.{listing_of}
use Rattle.tower_top.specs.Laws.{ListingsAreSound}
use Rattle.listing_laws.proofs.Listed.{listed}
use Rattle.tower_top.proofs.laws.listings_are_sound.Goals as goal

lists : ListingsAreSound
unfolding listing_of
lists bs arch h = listed bs arch h

pub returns : goal.returns
returns c = lists
