-- `process_pe_arm64`: one case for each judgement; a written entry keeps what `put_lines` requires.
use Rattle.std.proofs.Common.{refl, arith}
use Rattle.std.proofs.lemmas.Result.{err_from_is_err_and}
use Rattle.text.specs.Text.Laws.{put_none, put_as}
use Rattle.arm64.specs.Arm64.{arm_entry}
use Rattle.arm64.proofs.process_pe_arm64.Goals as goal

pub put_lines-at-requires : goal.put_lines-at-requires
put_lines-at-requires c = let a = rw c.in-Some.is at c.in_ok-body.ensures in a.reach

pub returns-in_err-body : goal.returns-in_err-body
unfolding arm_entry
returns-in_err-body c =
    let p = err_from_is_err_and c.from_residual.result c.from_residual.ensures.1 in
    rw (p.1, p.2, c.in_err-body.ensures) (record { number_is = refl; same = refl })

pub returns-in-None : goal.returns-in-None
unfolding arm_entry
returns-in-None c =
    let skip = rw c.in-None.is at c.in_ok-body.ensures in
    rw skip (record { number_is = refl; next_is = refl; put = put_none (omega arith) (omega arith) })

pub returns-in-Some : goal.returns-in-Some
unfolding arm_entry
returns-in-Some c =
    let a = rw c.in-Some.is at c.in_ok-body.ensures in
    rw a.judged_is (record { number_is = refl; next_is = refl; put = put_as c.put_lines-at.ensures a.text_is })
