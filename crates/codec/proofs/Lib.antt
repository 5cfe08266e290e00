pub mod BackLaws
pub mod ClearedLaws
pub mod EncodingLaws
pub mod FrameLaws
pub mod ReportLaws
