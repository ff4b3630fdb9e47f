-- `replay_text::words::hex_bytes` is right. The invariant: the first n bytes of the room are right.
use Rattle.std.proofs.Common.{◌≡◌, ◌/◌, length, None, arith, rules}
use Rattle.replay_text.proofs.Hex.{put_odd, put_small, put_bad, put_on, put_end}
use Rattle.replay_text.proofs.words.hex_bytes.Goals.{then-digits-eq1-via-then-digits-eq1, then-digits-eq1-via-else-digits-eq1+then-room-most}
use Rattle.replay_text.proofs.words.hex_bytes.Goals as goal

pub returns-then-digits-eq1 : goal.returns-then-digits-eq1
returns-then-digits-eq1 c =
    elim c.then-digits-eq1.branch [
      | then-digits-eq1-via-then-digits-eq1 w ↦ put_odd _ _ w.if-digits-eq1.true
      | then-digits-eq1-via-else-digits-eq1+then-room-most w ↦ put_small _ _ w.if-room-most.true
    ]

pub returns-in_err-room : goal.returns-in_err-room
returns-in_err-room c =
    let e : c.from_residual.result ≡ None = search rules in
    rw e (put_bad c.loop-n.invariant c.loop-n-test.true c.hex_byte.ensures c.in_err-room.was)

pub loop-n-preserved : goal.loop-n-preserved
loop-n-preserved c =
    put_on c.loop-n.invariant c.loop-n-test.true
    c.hex_byte.ensures c.in_ok-room.was c.if-room-most.false

pub returns : goal.returns
returns c =
    let e : length c.args.digits.now / 2 ≡ c.loop-n.n = omega (arith, c.loop-n-test.false, c.loop-n.invariant.within) in
    rw e (put_end c.loop-n.invariant c.if-digits-eq1.false c.if-room-most.false (omega arith))
