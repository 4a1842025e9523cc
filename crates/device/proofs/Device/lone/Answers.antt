-- `Device::lone` meets its contract: `writing::lone` does. Assumes nothing.
use Rattle.device.proofs.Device.lone.Goals as goal

pub returns : goal.returns
returns c = rw c.strode.ensures c.lone.ensures
