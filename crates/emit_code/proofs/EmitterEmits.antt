-- The emission of an emitter's scratch words, from that of any words.
use Rattle.std.proofs.Common.{refl, arith, ◌≤◌, ◌+◌, ◌≡◌, length, slice_index_or}
use Rattle.tower_syntax.specs.Weights.{emitter_words}
use Rattle.task_code.proofs.Emissions.{emits}
use Rattle.emit_code.specs.Entries.{frame_in}
use Rattle.emit_code.specs.Delivering.{EmitterEmits}

pub emitter_emits : EmitterEmits
emitter_emits arch p t x entries h k e f o framed r at formed has below stack stands =
    let table = framed.tables h k e r at in
    let places = (framed.parts h r).scratch k e at in
    let high : slice_index_or (frame_in entries h).scratch k 0 + emitter_words arch e ≤ (frame_in entries h).end = places.1 in
    let room : (frame_in entries h).end ≤ t.room = framed.room h r in
    let size : length o.words ≡ t.room = formed.room in
    emits p t (slice_index_or (frame_in entries h).scratch k 0) ((frame_in entries h).first_buffer + k) (emitter_words arch e) (record { width = emitter_words arch e; bound = e.bound }) f o
    table refl has (formed.buffers ((frame_in entries h).first_buffer + k) (record { width = emitter_words arch e; bound = e.bound }) f table has) below (omega (arith, high, room, size)) stack stands
