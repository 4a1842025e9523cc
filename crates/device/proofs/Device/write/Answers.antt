-- `Device::write` meets its contract: `writing::write` does. Assumes nothing.
use Rattle.device.proofs.Device.write.Goals as goal

pub returns : goal.returns
returns c = rw c.strode.ensures c.write.ensures
