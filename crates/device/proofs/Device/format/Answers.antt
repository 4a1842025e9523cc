-- `Device::format` meets its contract: `starting::format` does. Assumes nothing.
use Rattle.device.proofs.Device.format.Goals as goal

pub returns : goal.returns
returns c = rw c.strode.ensures c.format.ensures
