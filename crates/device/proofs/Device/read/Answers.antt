-- `Device::read` meets its contract: `reading::read` does. Assumes nothing.
use Rattle.device.proofs.Device.read.Goals as goal

pub returns : goal.returns
returns c = c.read.ensures
