-- `short_sessions::main` meets its contract: what `list` put lies in the buffer. Assumes nothing.
use Rattle.short_sessions.proofs.main.Goals as goal

pub slice_bounds-out-end : goal.slice_bounds-out-end
slice_bounds-out-end c = c.in-Some.ensures.1.0
