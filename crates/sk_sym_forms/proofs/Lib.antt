pub mod Values
pub mod Acts
pub use Rattle.sk_sym_frames.proofs.Frames
pub use Rattle.sk_sym_leaves.proofs.Lists
pub use Rattle.sk_sym_literals.proofs.Holes
pub use Rattle.sk_sym_steps.proofs.Costs
