-- `Device::recover` meets its contract: `starting::recover` does. Assumes nothing.
use Rattle.device.proofs.Device.recover.Goals as goal

pub returns : goal.returns
returns c = rw c.strode.ensures c.recover.ensures
