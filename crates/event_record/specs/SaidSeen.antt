-- What a line is, as definitions see it.
use Rattle.event_record.specs.declared.record.Said.{Said as SaidMade}
use Rattle.event_record.specs.declared.record.Said.TheVariants as made
use Rattle.event_record.specs.RecordLine.{Said, nothing, ticks, brings, no_form}

abbrev pub said_seen : SaidMade → Said
said_seen made.Nothing = nothing
said_seen (made.Ticks n) = ticks n
said_seen (made.Brings name text) = brings name.now text.now
said_seen made.NoForm = no_form
