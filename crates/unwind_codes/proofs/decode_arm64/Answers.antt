-- `decode_arm64`: turned away by the list or the room, or filled.
use Rattle.std.proofs.Common.{arith, rules}
use Rattle.text.specs.Text.Laws.{◌⨾◌}
use Rattle.unwind_codes.proofs.Loops.{decode_refused, decode_short, decode_filled}
use Rattle.unwind_codes.proofs.decode_arm64.Goals as goal

pub returns-in_err-codes : goal.returns-in_err-codes
returns-in_err-codes c =
    let a = c.args in
    let r = decode_refused a.bytes.now a.address a.size a.body.now c.in_err-codes.field-0.0 c.in_err-codes.ensures.err in
    search (rules, r)

pub returns-then-body-codes : goal.returns-then-body-codes
returns-then-body-codes c =
    let a = c.args in
    let o = c.in_ok-codes.ensures.ok in
    decode_short a.bytes.now a.address a.size a.body.now o.1 (rw o.0 at c.in_ok-codes.codes.counted) (omega arith)

pub returns : goal.returns
returns c =
    let a = c.args in
    let o = c.in_ok-codes.ensures.ok in
    decode_filled a.bytes.now a.address a.size a.body.now o.1 (rw o.0 at c.in_ok-codes.codes.counted) (omega arith) (c.put_words-at.ensures ⨾ (rw o.0 at c.put.ensures))
