pub mod Forms
pub use Rattle.sk_sym_frames.specs.Frames
pub use Rattle.sk_sym_frames.specs.declared.frame.Caller
pub use Rattle.sk_sym_leaves.specs.Lists
pub use Rattle.sk_sym_literals.specs.Given
pub use Rattle.sk_sym_steps.specs.Steps
