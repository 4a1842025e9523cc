-- `Device::read_part` meets its contract: `reading::read_part` does. Assumes nothing.
use Rattle.device.proofs.Device.read_part.Goals as goal

pub returns : goal.returns
returns c = c.read_part.ensures
