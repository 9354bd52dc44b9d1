use Rattle.std.proofs.Common.{◌≡◌, ℕ, ◌+◌, ◌-◌, [], take, drop, length, arith, ap, subst, length-drop}
use Rattle.std.proofs.lemmas.List.{drop_all}
use Rattle.quorum_log.proofs.Halves.{rest_read}
use Rattle.quorum_log.proofs.opening.read_rest.Goals as goal

pub returns : goal.returns
returns g c =
    let whole = c.deref_mut.result.now in
    let P : ℕ → Type 0 = λ n. take n c.add.new.buffer.items ≡ c.args.header.now in
    let front : take 64 c.add.new.buffer.items ≡ c.args.header.now = (let e : 0 + length c.args.header.now ≡ 64 = omega (arith, c.requires.header) in subst P e c.add.ensures.text) in
    let none : drop (length whole - 64) (drop 64 whole) ≡ [] = drop_all (length whole - 64) (drop 64 whole) (omega (arith, length-drop 64 whole)) in
    let long : 64 + length c.read.new.into ≡ c.add.new.buffer.len = omega (arith, c.read.auto.into, c.deref_mut.ensures.len, c.requires.room, c.add.ensures.size, ap (λ xs. length xs) c.deref_mut.ensures.value, length-drop 64 whole) in
    let size : 64 + length c.read.new.into ≡ length c.args.image.now.items = omega (arith, c.read.auto.into, c.requires.room, c.add.ensures.size, ap (λ xs. length xs) c.deref_mut.ensures.value, length-drop 64 whole) in
    (c.read.new.into, size, c.read.ensures, (λ ok. rest_read _ whole c.add.new.buffer.items c.args.header.now c.read.new.into _ _ c.deref_mut.ensures.value front none long (omega (arith, c.requires.room, c.add.ensures.size))))
