pub mod MomentLaws
