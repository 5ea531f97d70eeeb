use Rattle.conversion.proofs.Conv.{converted}
use Rattle.seq.specs.declared.Format.TheVariants.{Json, MsgPack}
use Rattle.convert.proofs.convert.Goals as goal

pub returns-in-Json : goal.returns-in-Json
returns-in-Json c =
    let e = c.pack_value.ensures in
    let h = converted Json MsgPack _ _ _ e.means in
    rw c.in-Json.is (record { answer = h.0; bytes = h.1; within = e.within })

pub returns-in-MsgPack : goal.returns-in-MsgPack
returns-in-MsgPack c =
    let e = c.json_value.ensures in
    let h = converted MsgPack Json _ _ _ e.means in
    rw c.in-MsgPack.is (record { answer = h.0; bytes = h.1; within = e.within })
