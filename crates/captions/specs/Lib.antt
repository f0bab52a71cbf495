pub mod CaptionLaws
