-- `report::read_lines` meets its contract.
-- Assumes nothing.
use Rattle.report.proofs.Fronts.{front_rows, front_bits, front_rest, front_found}
use Rattle.report.proofs.read_lines.Goals as goal

pub returns-in_err-rows : goal.returns-in_err-rows
returns-in_err-rows c =
    let a = c.args in
    rw c.from_residual.ensures (front_rows a.text.now a.at _ _ _ _ c.in_err-rows.ensures)

pub returns-in_err-bits : goal.returns-in_err-bits
returns-in_err-bits c =
    let a = c.args in
    let r = c.in_ok-rows in
    rw c.from_residual-in_err-bits.ensures
    (front_bits a.text.now a.at r.rows.values r.rows.end r.ensures _ _ _ _ c.in_err-bits.ensures)

pub returns-in_err-rest : goal.returns-in_err-rest
returns-in_err-rest c =
    let a = c.args in
    let r = c.in_ok-rows in
    let i = c.in_ok-bits in
    rw c.from_residual-in_err-rest.ensures
    (front_rest a.text.now a.at r.rows.values r.rows.end r.ensures i.bits.bits i.bits.end i.ensures _ _ _ _ c.in_err-rest.ensures)

pub returns : goal.returns
returns c =
    let a = c.args in
    let r = c.in_ok-rows in
    let i = c.in_ok-bits in
    let l = c.in_ok-rest in
    front_found a.text.now a.at r.rows.values r.rows.end r.ensures i.bits.bits i.bits.end i.ensures l.rest.value l.rest.end l.ensures
