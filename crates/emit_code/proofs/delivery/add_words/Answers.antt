use Rattle.std.proofs.Common.{◌≡◌, ◌+◌, [], ◌∷◌, pos, rules}
use Rattle.task_code.specs.declared.program.Instr.TheVariants.{Ld, Push, Bget, St}
use Rattle.emit_code.proofs.Added.{four_more, words_got-more}
use Rattle.emit_code.proofs.delivery.add_words.Goals as goal

pub loop-j-preserved : goal.loop-j-preserved
loop-j-preserved c =
    let out = c.args.out in
    let there : c.in_ok-address.address ≡ c.args.to + c.loop-j.j = search rules in
    let four = four_more c.loop-j.code c.push.new.self c.add_number.new.code c.push-in-loop-j.new.self c.push-in-loop-j-2.new.self (Ld out.counter) (Push (pos c.loop-j.j)) (Bget out.buffer) (St c.in_ok-address.address) c.in_ok-push.ensures.ok c.in_ok-add_number.ensures.ok c.in_ok-push-2.ensures.ok c.in_ok-push-3.ensures.ok in
    words_got-more out.counter out.buffer c.args.to c.loop-j.j c.args.code.now c.loop-j.code c.push-in-loop-j-2.new.self
    (Ld out.counter ∷ Push (pos c.loop-j.j) ∷ Bget out.buffer ∷ St c.in_ok-address.address ∷ [])
    c.loop-j.invariant four (λ t. Ld out.counter ∷ Push (pos c.loop-j.j) ∷ Bget out.buffer ∷ St (there t) ∷ [])
