pub mod Read
pub mod ReadLaws
pub mod LessLaws
pub mod NumeralLaws
pub mod LeadLaws
