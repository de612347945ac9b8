-- A device's fault says how many of the bytes went out.
use Rattle.std.proofs.Common.{◌≡◌, ◌<◌, ◌++◌, ℕ, List, Err, length, take, refl, ap, subst}
use Rattle.std.specs.Io.KnownBytes.{Appends}
use Rattle.nm_replies.specs.Sending.{device_of}
use Rattle.nm_session.proofs.io.send_out.Goals as goal

pub returns-in-Err-Device-clause-err : goal.returns-in-Err-Device-clause-err
returns-in-Err-Device-clause-err g c =
    let device = c.in-Err-Device.ensures.device c.in-Err-Device.sent (ap Err c.in-Err-Device.field-0-is) in
    let same : c.as_slice.result.now ++ c.as_slice-2.result.now ≡ c.args.core.now.out =
    cc (c.as_slice.ensures.value, c.as_slice-2.ensures.value, c.take_out-gathered.ensures.bytes) in (
      record { bytes_are = refl; new_is = c.take_out-gathered.ensures.rest },
      subst (λ (bytes : List ℕ). Appends (g.O.Write.contents (device_of c.args.sender.now))
          (g.O.Write.contents (device_of c.send_both.new.sender)) (take c.in-Err-Device.sent bytes)) same device.1,
      subst (λ (bytes : List ℕ). c.in-Err-Device.sent < length bytes) same device.0,
    )
