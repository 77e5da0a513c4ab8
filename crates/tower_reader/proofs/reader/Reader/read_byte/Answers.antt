use Rattle.std.proofs.Common.{refl, ap, ◌∙◌, arith}
use Rattle.tower_reader.specs.Machine.{run}
use Rattle.tower_reader.specs.View.{frames_of}
use Rattle.tower_reader.proofs.Standing.{overflows, goes_on}
use Rattle.tower_reader.proofs.reader.Reader.read_byte.Goals as goal

pub returns-then-taken-ge-BYTE_LIMIT : goal.returns-then-taken-ge-BYTE_LIMIT
returns-then-taken-ge-BYTE_LIMIT c = λ bs h. overflows c.args.self.now _ bs c.args.byte c.taken.result c.requires refl c.taken.ensures.text c.if-taken-ge-BYTE_LIMIT.true h

pub returns-in_ok-read_tokens-in-Taken : goal.returns-in_ok-read_tokens-in-Taken
returns-in_ok-read_tokens-in-Taken c = λ bs h.
    let fs = c.in_ok-read_tokens-in-Taken.ensures.read ∙ ap (λ ts. run ts (frames_of c.args.self.now.lists)) c.as_slice.ensures.value in
    goes_on c.args.self.now _ bs c.args.byte c.taken.result _ _ c.requires c.requires c.taken.ensures.text c.if-taken-ge-BYTE_LIMIT.false (c.in-Taken.ensures.stands refl) (c.in-Taken.ensures.put refl) c.clear.ensures.items fs (c.in-Taken.ensures.few refl) (c.in-Taken.ensures.nested refl) (omega (arith, c.clear.ensures.capacity, c.in-Taken.ensures.capacity)) h
