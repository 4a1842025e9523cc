-- `Device::drop` meets its contract: `writing::drop` does. Assumes nothing.
use Rattle.device.proofs.Device.drop.Goals as goal

pub returns : goal.returns
returns c = rw c.strode.ensures c.drop.ensures
