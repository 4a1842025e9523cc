-- `Device::commit` meets its contract: `writing::commit` does. Assumes nothing.
use Rattle.device.proofs.Device.commit.Goals as goal

pub returns : goal.returns
returns c = rw c.strode.ensures c.commit.ensures
